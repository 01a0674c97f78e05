-- Bytes that lead to an open phase of a response begin one.
use Rattle.std.proofs.Common.{◌≡◌, true, ℕ, ◌+◌, ◌≤◌, inl, inr, List, [], ◌∷◌, ◌++◌, Option, Some, None, sym, ap, ◌∙◌, arith, length, append_assoc}
use Rattle.std.specs.Prelude.{All}
use Rattle.std.proofs.lemmas.List.Elements.{All-nil}
use Rattle.httparse.specs.Grammar.{is_value_byte, AllPass, LineEnd, print_end, print_blank, print_version, print_reason, reason_phrase, Field, IsField, print_section, ResponseHead, IsResponseHead, ReadsResponse}
use Rattle.httparse.proofs.GrammarLemmas.{response_unique, ReadsResponse-append}
use Rattle.http_head.specs.declared.phases.Opening.TheVariants.{Response}
use Rattle.http_head.specs.declared.phases.HeadPhase.TheVariants.{Blank}
use Rattle.http_head.specs.Corners.{ends_in}
use Rattle.http_head.specs.Responses.{BeginsResponse}
use Rattle.http_head.specs.Phases.{CodeEnds, HeadEnds, Opens}
use Rattle.http_head.proofs.Tails.{ends_in-append}
use Rattle.http_head.proofs.Counts.{lines_of, open_few}
use Rattle.http_head.proofs.ResponseHeads.{response_start, response_start_is, response_ends, exceeding_ends}

-- what is behind a status: a reason or none, the line's end, and the lines
record Behind (text : List ℕ) : Type 0 where
  reason : Option (List ℕ)
  valid : AllPass is_value_byte (reason_phrase reason)
  end : LineEnd
  fields : List Field
  last : LineEnd
  all : All IsField fields
  few : length fields ≤ 65
  is : text ≡ print_reason reason ++ (print_end end ++ print_section fields last)

behind_code : (text : List ℕ) → CodeEnds text → Behind text
behind_code text (inl (end, (r1, e1, (fields, last, all, few, e2)))) = record {
  reason = None;
  valid = All-nil (λ b. is_value_byte b ≡ true);
  end = end;
  fields = fields;
  last = last;
  all = all;
  few = few;
  is = e1 ∙ ap (λ x. print_end end ++ x) e2;
}
behind_code text
    (inr (r0, e0, (phrase, value, (r1, e1, (end, (r2, e2, (fields, last, all, few, e3))))))) =
    record {
      reason = Some phrase;
      valid = value;
      end = end;
      fields = fields;
      last = last;
      all = all;
      few = few;
      is = e0 ∙ ap (λ x. 32 ∷ x)
          (e1 ∙ ap (λ x. phrase ++ x) (e2 ∙ ap (λ x. print_end end ++ x) e3));
    }

-- the parts of a head, one behind another
regroup : (a b c d e s : List ℕ)
    → a ++ (b ++ 32 ∷ (c ++ (d ++ (e ++ s)))) ≡ ((a ++ b) ++ 32 ∷ (c ++ (d ++ e))) ++ s
regroup a b c d e s = simp append_assoc

-- bytes that end a response from before it are a whole one
whole : (text : List ℕ) → HeadEnds Response text
    → (h : ResponseHead) × ReadsResponse text h [] × (length h.fields ≤ 65)
whole text (blank, (r1, e1, (r2, e2, (minor, small, (r3, e3, (r4, e4, status)))))) =
    let digits = status.0 in
    let b = behind_code status.3.0 status.3.2 in
    let h : ResponseHead = record {
      blank = blank;
      minor = minor;
      digits = digits;
      reason = b.reason;
      line_end = b.end;
      fields = b.fields;
      last = b.last;
    } in
    let valid : IsResponseHead h = record {
      minor = small;
      digits = (status.1, status.2);
      reason = b.valid;
      fields = b.all;
    } in
    let section = lines_of b.fields ++ print_end b.last in
    let end = print_end b.end ++ section in
    let behind : r3 ≡ 32 ∷ (digits ++ (print_reason b.reason ++ end)) =
    e4 ∙ ap (λ x. 32 ∷ x) (status.3.1 ∙ ap (λ x. digits ++ x) b.is) in
    let digit : r2 ≡ (48 + minor) ∷ 32 ∷ (digits ++ (print_reason b.reason ++ end)) =
    e3 ∙ ap (λ x. (48 + minor) ∷ x) behind in
    let first : r1 ≡ print_version minor ++ 32 ∷ (digits ++ (print_reason b.reason ++ end)) =
    e2 ∙ ap (λ x. 72 ∷ 84 ∷ 84 ∷ 80 ∷ 47 ∷ 49 ∷ 46 ∷ x) digit in
    let parts = regroup (print_blank blank) (print_version minor) digits (print_reason b.reason)
    (print_end b.end) section in
    let text_is : text ≡ response_start h ++ section =
    e1 ∙ ap (λ x. print_blank blank ++ x) first ∙ parts in
    (h, (valid, text_is ∙ sym (response_ends h)), b.few)

-- bytes behind which a head can end with two lines' ends begin it
begun : (bytes text : List ℕ) (h : ResponseHead) → ReadsResponse (bytes ++ text) h []
    → length h.fields ≤ 65 → 2 ≤ ends_in text → BeginsResponse bytes
begun bytes text h reads few two = record {
  not_whole = λ k rest whole.
      let same = response_unique (bytes ++ text) h k [] (rest ++ text) reads
      (ReadsResponse-append bytes k rest text whole) in
      let none = ap ends_in same.1 in
      let parts = ends_in-append rest text in
      omega arith;
  can_end = (text, h, reads);
  few_lines = λ many.
      let more = exceeding_ends bytes many in
      let less = open_few (response_start h) (response_start_is h reads.0) h.fields h.last
      reads.0.fields bytes text (reads.1 ∙ response_ends h) two in
      omega arith;
}

-- a response may begin there
pub responses_open : Opens BeginsResponse (Blank Response)
responses_open = record {
  begun = λ bytes last leads is_open.
      let w = whole (bytes ++ is_open.text) (leads.ends is_open.text is_open.ends) in
      begun bytes is_open.text w.0 w.1 w.2 is_open.two;
}
