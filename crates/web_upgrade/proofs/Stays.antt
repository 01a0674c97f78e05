-- What bytes of a request come to stays whatever follows.
use Rattle.std.proofs.Common.{◌≡◌, ◌∙◌, ap, refl, sym, subst, ℕ, ◌≤◌, ◌<◌, List, [], ◌∷◌, ◌++◌, length, take, drop, Result, Ok, Err, rules, arith, append_assoc, inl, inr}
use Rattle.std.proofs.lemmas.List.{append-nil, take-append-drop, take-append-le, take_all, length-append, length-take, length-drop}
use Rattle.httparse.specs.Grammar.{RequestHead, ReadsRequest}
use Rattle.httparse.proofs.GrammarLemmas.{request_unique, ReadsRequest-append}
use Rattle.http_head.specs.declared.parts.RequestParts.{RequestParts}
use Rattle.http_head.specs.Requests.{ReadsRequestHead, BeginsRequest, IsNoRequest}
use Rattle.http_head.proofs.Cuts.{two_cuts}
use Rattle.http_head.proofs.RequestLaws.{request_stays, whole_not_begun, whole_not_none, begun_not_none, none_stays}
use Rattle.websocket.specs.declared.handshake.failure.HandshakeError.{HandshakeError}
use Rattle.web_upgrade.specs.Judging.{AnswersKey, Answered, asked_key, IsHead, Judges, More, Long, NoHead, Whole}
use Rattle.web_upgrade.specs.declared.judging.Judged.{Judged}
use Rattle.web_upgrade.specs.declared.judging.Judged.TheVariants.{Begun, Upgrades, Refused}
use Rattle.web_upgrade.specs.declared.refusals.Refusal.TheVariants.{Bad, TooLong}

-- The first n bytes begin the first n bytes of more.
pub front_grows : (n : ℕ) (bytes more : List ℕ)
    → (x : List ℕ) × (take n (bytes ++ more) ≡ take n bytes ++ x)
front_grows n bytes more =
    elim (two_cuts (take n (bytes ++ more)) (drop n (bytes ++ more)) (take n bytes) (drop n bytes ++ more) cut) [
      | inl w ↦ (w.0, w.1)
      | inr w ↦ longer w.0 w.1
    ]
  where
    cut : take n (bytes ++ more) ++ drop n (bytes ++ more) ≡ take n bytes ++ (drop n bytes ++ more)
    cut = take-append-drop n (bytes ++ more) ∙ sym (ap (λ t. t ++ more) (take-append-drop n bytes))
        ∙ append_assoc (take n bytes) (drop n bytes) more

    longer : (m : List ℕ) → take n bytes ≡ take n (bytes ++ more) ++ m
        → (x : List ℕ) × (take n (bytes ++ more) ≡ take n bytes ++ x)
    longer [] e = ([], sym (append-nil (take n (bytes ++ more))) ∙ sym e ∙ sym (append-nil (take n bytes)))
    longer (y ∷ m) e = absurd (omega (
      arith,
      ap (λ (l : List ℕ). length l) e,
      length-append (take n (bytes ++ more)) (y ∷ m),
      length-append bytes more,
      length-take n bytes,
      length-take n (bytes ++ more),
    ))

-- The head that is answered, as heads are read.
head_of : (bytes : List ℕ) (len : ℕ) (h : RequestHead) (x : IsHead bytes len h)
    → ReadsRequestHead bytes x.parts (drop len bytes)
head_of bytes len h x = (h, x.reads, x.lines, x.said)

-- A key is answered in one way.
same_answer : (asked : Result (List ℕ) HandshakeError) (len : ℕ) (a b : Judged)
    → AnswersKey asked len a → AnswersKey asked len b → a ≡ b
same_answer (Err e) len a b x y = x ∙ sym y
same_answer (Ok key) len Begun b x y = absurd x
same_answer (Ok key) len (Upgrades c n) Begun x y = absurd y
same_answer (Ok key) len (Upgrades c n) (Upgrades d m) x y =
    let p : c ≡ d = x.1 ∙ sym y.1 in
    let q : n ≡ m = x.2 ∙ sym y.2 in
    cc
same_answer (Ok key) len (Upgrades c n) (Refused w) x y = absurd (y.0 x.0)
same_answer (Ok key) len (Refused w) Begun x y = absurd y
same_answer (Ok key) len (Refused w) (Upgrades d m) x y = absurd (x.0 y.0)
same_answer (Ok key) len (Refused w) (Refused v) x y =
    let p : w ≡ v = x.1 ∙ sym y.1 in
    ap Refused p

-- A head that is too long stays so.
long_stays : (bytes more : List ℕ) (b : Judged) → 16384 ≤ length bytes → BeginsRequest (take 16384 bytes)
    → Judges (bytes ++ more) b → Refused TooLong ≡ b
long_stays bytes more b long begins (More is short x) =
    absurd (omega (arith, long, short, length-append bytes more))
long_stays bytes more b long begins (Long is x y) = sym is
long_stays bytes more b long begins (NoHead is none) =
    absurd (begun_not_none (take 16384 bytes) begins
    (subst (λ f. IsNoRequest f) (take-append-le 16384 bytes more long) none))
long_stays bytes more b long begins (Whole len (h, head, ans)) =
    absurd (whole_not_begun (take 16384 (bytes ++ more)) head.parts (drop len (take 16384 (bytes ++ more)))
    (head_of _ len h head)
    (subst (λ f. BeginsRequest f) (sym (take-append-le 16384 bytes more long)) begins))

-- Bytes that begin no head stay so.
none_answered : (bytes : List ℕ) (b : Judged) → IsNoRequest (take 16384 bytes) → Judges bytes b
    → Refused Bad ≡ b
none_answered bytes b none (More is short x) =
    absurd (begun_not_none (take 16384 bytes)
    (subst (λ f. BeginsRequest f) (sym (take_all 16384 bytes (omega (arith, short)))) x) none)
none_answered bytes b none (Long is x begins) = absurd (begun_not_none (take 16384 bytes) begins none)
none_answered bytes b none (NoHead is x) = sym is
none_answered bytes b none (Whole len (h, head, ans)) =
    absurd (whole_not_none (take 16384 bytes) head.parts (drop len (take 16384 bytes))
    (head_of _ len h head) none)

-- A whole head at the front stays so, and is answered in one way.
whole_answered : (bytes front x : List ℕ) (len : ℕ) (h : RequestHead) (a b : Judged)
    → take 16384 bytes ≡ front ++ x → IsHead front len h → AnswersKey (asked_key h) len a
    → Judges bytes b → a ≡ b
whole_answered bytes front x len h a b is head ans (More it short begins) =
    absurd (whole_not_begun (front ++ x) head.parts (drop len front ++ x)
    (request_stays front x head.parts (drop len front) (head_of front len h head))
    (subst (λ f. BeginsRequest f) (sym (take_all 16384 bytes (omega (arith, short))) ∙ is) begins))
whole_answered bytes front x len h a b is head ans (Long it long begins) =
    absurd (whole_not_begun (front ++ x) head.parts (drop len front ++ x)
    (request_stays front x head.parts (drop len front) (head_of front len h head))
    (subst (λ f. BeginsRequest f) is begins))
whole_answered bytes front x len h a b is head ans (NoHead it none) =
    absurd (whole_not_none (front ++ x) head.parts (drop len front ++ x)
    (request_stays front x head.parts (drop len front) (head_of front len h head))
    (subst (λ f. IsNoRequest f) is none))
whole_answered bytes front x len h a b is head ans (Whole n (k, other, says)) =
    let reads : ReadsRequest (take 16384 bytes) h (drop len front ++ x) =
    subst (λ f. ReadsRequest f h (drop len front ++ x)) (sym is)
    (ReadsRequest-append front h (drop len front) x head.reads.0) in
    let same = request_unique (take 16384 bytes) h k (drop len front ++ x) (drop n (take 16384 bytes))
    reads other.reads.0 in
    let size : n ≡ len = omega (
      arith,
      ap (λ (l : List ℕ). length l) same.1,
      length-append (drop len front) x,
      length-drop len front,
      length-drop n (take 16384 bytes),
      ap (λ (l : List ℕ). length l) is,
      length-append front x,
      head.within,
      other.within,
    ) in
    same_answer (asked_key h) len a b ans
    (subst (λ m. AnswersKey (asked_key h) m b) size
    (subst (λ r. AnswersKey (asked_key r) n b) (sym same.0) says))

-- Once bytes are accepted or refused, they come to the same whatever follows.
pub answer_stays : (bytes more : List ℕ) (a b : Judged) → Judges bytes a → (a ≡ Begun → ⊥)
    → Judges (bytes ++ more) b → a ≡ b
answer_stays bytes more a b (More is short begins) settled y = absurd (settled is)
answer_stays bytes more a b (Long is long begins) settled y = is ∙ long_stays bytes more b long begins y
answer_stays bytes more a b (NoHead is none) settled y =
    let grown = front_grows 16384 bytes more in
    is ∙ none_answered (bytes ++ more) b
    (subst (λ f. IsNoRequest f) (sym grown.1) (none_stays (take 16384 bytes) grown.0 none)) y
answer_stays bytes more a b (Whole len (h, head, ans)) settled y =
    let grown = front_grows 16384 bytes more in
    whole_answered (bytes ++ more) (take 16384 bytes) grown.0 len h a b grown.1 head ans y

-- Bytes that begin a head, are fewer than may be and come to something else.
begun_answered : (bytes : List ℕ) (b : Judged) → length bytes < 16384 → BeginsRequest bytes
    → Judges bytes b → Begun ≡ b
begun_answered bytes b short begins (More is x y) = sym is
begun_answered bytes b short begins (Long is long y) = absurd (omega (arith, short, long))
begun_answered bytes b short begins (NoHead is none) = absurd (begun_not_none bytes begins
    (subst (λ f. IsNoRequest f) (take_all 16384 bytes (omega (arith, short))) none))
begun_answered bytes b short begins (Whole len (h, head, ans)) =
    absurd (whole_not_begun (take 16384 bytes) head.parts (drop len (take 16384 bytes))
    (head_of _ len h head)
    (subst (λ f. BeginsRequest f) (sym (take_all 16384 bytes (omega (arith, short)))) begins))

-- Bytes come to one thing.
pub one_answer : (bytes : List ℕ) (a b : Judged) → Judges bytes a → Judges bytes b → a ≡ b
one_answer bytes a b (More is short begins) y = is ∙ begun_answered bytes b short begins y
one_answer bytes a b (Long is long begins) y =
    is ∙ long_stays bytes [] b long begins (subst (λ t. Judges t b) (sym (append-nil bytes)) y)
one_answer bytes a b (NoHead is none) y = is ∙ none_answered bytes b none y
one_answer bytes a b (Whole len (h, head, ans)) y =
    whole_answered bytes (take 16384 bytes) [] len h a b (sym (append-nil (take 16384 bytes))) head ans y
