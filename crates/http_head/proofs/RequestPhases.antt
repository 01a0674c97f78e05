-- Bytes that lead to an open phase of a request begin one.
use Rattle.std.proofs.Common.{◌≡◌, ℕ, ◌+◌, ◌≤◌, true, List, [], ◌∷◌, ◌++◌, sym, ap, ◌∙◌, arith, length, append_assoc}
use Rattle.std.specs.Prelude.{All}
use Rattle.std.specs.Char.{is_ascii_graphic}
use Rattle.std.proofs.lemmas.List.Elements.{All-weaker}
use Rattle.std.proofs.lemmas.List.Sums.{list_all-from_AllPass}
use Rattle.httparse.specs.Grammar.{is_token_byte, is_uri_byte, AllPass, LineEnd, Field, IsField, print_section, print_end, print_blank, print_version, RequestHead, IsRequestHead}
use Rattle.httparse.proofs.GrammarLemmas.{request_unique, ReadsRequest-append}
use Rattle.http_head.specs.declared.phases.Opening.TheVariants.{Request}
use Rattle.http_head.specs.declared.phases.HeadPhase.TheVariants.{Blank}
use Rattle.http_head.specs.Corners.{ends_in}
use Rattle.http_head.specs.Requests.{is_plain, ReadsPlain, BeginsRequest}
use Rattle.http_head.specs.Phases.{BehindTarget, BehindMethod, HeadEnds, Opens}
use Rattle.http_head.proofs.Tails.{ends_in-append}
use Rattle.http_head.proofs.Texts.{plain_is_text}
use Rattle.http_head.proofs.Counts.{lines_of, open_few}
use Rattle.http_head.proofs.Leading.{full_word}
use Rattle.http_head.proofs.RequestHeads.{request_start, request_start_is, request_ends, graphic_is_uri, exceeding_ends}

-- the parts of a head, one behind another
regroup : (a b c d e s : List ℕ)
    → a ++ (b ++ 32 ∷ (c ++ 32 ∷ (d ++ (e ++ s)))) ≡ ((a ++ b) ++ 32 ∷ (c ++ 32 ∷ (d ++ e))) ++ s
regroup a b c d e s = simp append_assoc

-- what is behind a target: the version, the line's end and the lines
record Behind (text : List ℕ) : Type 0 where
  minor : ℕ
  small : minor ≤ 1
  end : LineEnd
  fields : List Field
  last : LineEnd
  all : All IsField fields
  few : length fields ≤ 65
  is : text ≡ 32 ∷ (print_version minor ++ (print_end end ++ print_section fields last))

behind_target : (text : List ℕ) → BehindTarget text → Behind text
behind_target text (r1, e1, (r2, e2, (minor, small, (r3, e3, (end, (r4, e4, lines)))))) =
    let section = print_section lines.0 lines.1 in
    let line : r3 ≡ print_end end ++ section = e4 ∙ ap (λ x. print_end end ++ x) lines.4 in
    let digit : r2 ≡ (48 + minor) ∷ (print_end end ++ section) =
    e3 ∙ ap (λ x. (48 + minor) ∷ x) line in
    let version : r1 ≡ print_version minor ++ (print_end end ++ section) =
    e2 ∙ ap (λ x. 72 ∷ 84 ∷ 84 ∷ 80 ∷ 47 ∷ 49 ∷ 46 ∷ x) digit in
    record {
      minor = minor;
      small = small;
      end = end;
      fields = lines.0;
      last = lines.1;
      all = lines.2;
      few = lines.3;
      is = e1 ∙ ap (λ x. 32 ∷ x) version;
    }

-- bytes that end a request from before it are a whole one
whole : (text : List ℕ) → HeadEnds Request text
    → (h : RequestHead) × ReadsPlain text h [] × (length h.fields ≤ 65)
whole text (blank, (r1, e1, line)) =
    let m = full_word is_token_byte BehindMethod r1 line in
    let blank_behind = m.3.2 in
    let t = full_word is_ascii_graphic BehindTarget blank_behind.0 blank_behind.2 in
    let b = behind_target t.3.0 t.3.2 in
    let plain : is_plain t.0 ≡ true = list_all-from_AllPass is_ascii_graphic t.0 t.2 in
    let h : RequestHead = record {
      blank = blank;
      method = m.0;
      target = t.0;
      minor = b.minor;
      line_end = b.end;
      fields = b.fields;
      last = b.last;
    } in
    let valid : IsRequestHead h = record {
      method = (m.1, m.2);
      target = (t.1, uri_bytes t.0 t.2);
      target_text = plain_is_text t.0 plain;
      minor = b.small;
      fields = b.all;
    } in
    let section = lines_of b.fields ++ print_end b.last in
    let line = print_version b.minor ++ (print_end b.end ++ section) in
    let targeted : blank_behind.0 ≡ t.0 ++ 32 ∷ line = t.3.1 ∙ ap (λ x. t.0 ++ x) b.is in
    let behind : r1 ≡ m.0 ++ 32 ∷ (t.0 ++ 32 ∷ line) =
    m.3.1 ∙ ap (λ x. m.0 ++ x) (blank_behind.1 ∙ ap (λ x. 32 ∷ x) targeted) in
    let text_is : text ≡ request_start h ++ section =
    e1 ∙ ap (λ x. print_blank blank ++ x) behind
    ∙ regroup (print_blank blank) m.0 t.0 (print_version b.minor) (print_end b.end) section in
    (h, ((valid, text_is ∙ sym (request_ends h)), plain), b.few)
  where
    uri_bytes : (target : List ℕ) → AllPass is_ascii_graphic target → AllPass is_uri_byte target
    uri_bytes target all =
        All-weaker (λ b. is_ascii_graphic b ≡ true) (λ b. is_uri_byte b ≡ true)
        graphic_is_uri target all

-- bytes behind which a head can end with two lines' ends begin it
begun : (bytes text : List ℕ) (h : RequestHead) → ReadsPlain (bytes ++ text) h []
    → length h.fields ≤ 65 → 2 ≤ ends_in text → BeginsRequest bytes
begun bytes text h reads few two = record {
  not_whole = λ k rest whole.
      let same = request_unique (bytes ++ text) h k [] (rest ++ text) reads.0
      (ReadsRequest-append bytes k rest text whole) in
      let none = ap ends_in same.1 in
      let parts = ends_in-append rest text in
      omega arith;
  can_end = (text, h, reads);
  few_lines = λ many.
      let more = exceeding_ends bytes many in
      let less = open_few (request_start h) (request_start_is h reads.0.0) h.fields h.last
      reads.0.0.fields bytes text (reads.0.1 ∙ request_ends h) two in
      omega arith;
}

-- a request may begin there
pub requests_open : Opens BeginsRequest (Blank Request)
requests_open = record {
  begun = λ bytes last leads is_open.
      let w = whole (bytes ++ is_open.text) (leads.ends is_open.text is_open.ends) in
      begun bytes is_open.text w.0 w.1 w.2 is_open.two;
}
