-- One status for one told input.
use Rattle.std.proofs.Common.{◌≡◌, ◌≢◌, ◌∙◌, ℕ, ◌<◌, ◌≤◌, ◌⊎◌, inl, inr, List, [], ◌∷◌, ◌++◌, length, refl, ap, sym, subst, arith, Option, None, Some}
use Rattle.std.specs.List.{AllByRecursion}
use Rattle.std.proofs.lemmas.List.{append_cancel_right}
use Rattle.outside.specs.Causes.{Rose, HasCause}
use Rattle.outside.specs.Streams.{Takes, IsAtEnd}
use Rattle.script_lines.specs.Positions.{Position}
use Rattle.script_lines.specs.Grammar.{Role}
use Rattle.script_lines.specs.Grammar.{Acts, Ends, Refused}
use Rattle.script_lines.specs.Grammar.{role, followed, position_after}
use Rattle.script_lines.specs.Lines.{IsUnbroken, IsLine, joined}
use Rattle.script_run.specs.declared.status.Status.{Status}
use Rattle.script_run.specs.declared.status.Status.TheVariants.{Done, WrongWords, FaultLine, ReadFault, WriteFault, Memory, NoEnd}
use Rattle.script_run.specs.Transcript.{budget, Runs, Spells, Ended}
use Rattle.script_run.specs.Outcome.{Outcome}
use Rattle.script_run.specs.Uses.{SourceUse, SinkUse, IsTold, CountAlike}
use Rattle.script_run.proofs.Splits.{same_open, same_whole, whole_and_open}

-- a line that acts leads where the grammar says
abbrev pub Follows : {X : Type 0} → (X → Position) → (X → List ℕ → List ℕ → X → Type 0) → Type 0
Follows {X} position step = (s : X) (line out : List ℕ) (t : X) → step s line out t → followed (role (position s) line) (λ next. Some next) ≡ Some (position t)

followed_as : (v : Role) (f : Position → Option Position) (q : Position) → followed v (λ next. Some next) ≡ Some q → followed v f ≡ f q
followed_as (Acts line position) f q is = let h : position ≡ q = (cc) in ap f h
followed_as Ends f q is = (cc)
followed_as Refused f q is = (cc)

pub run_position : {X : Type 0} (position : X → Position) (step : X → List ℕ → List ℕ → X → Type 0) → Follows position step → (s : X) (lines : List (List ℕ)) (out : List ℕ) (t : X) → Runs step s lines out t → position_after (position s) lines ≡ Some (position t)
run_position position step follows s [] out t ran = ap (λ x. Some (position x)) (sym ran.1)
run_position position step follows s (line ∷ lines) out t ran =
    followed_as (role (position s) line) (λ next. position_after next lines) (position ran.0) (follows s line ran.1 ran.0 ran.3)
    ∙ run_position position step follows ran.0 lines ran.2 t ran.4

pub ends_stop : (v : Role) → v ≡ Ends → (f : Position → Option Position) → followed v f ≡ None
ends_stop (Acts line position) is f = absurd (cc)
ends_stop Ends is f = refl
ends_stop Refused is f = refl

pub refused_stop : (v : Role) → v ≡ Refused → (f : Position → Option Position) → followed v f ≡ None
refused_stop (Acts line position) is f = absurd (cc)
refused_stop Ends is f = refl
refused_stop Refused is f = refl

-- The forms in which the bytes of a script can end: behind the newline of a line that has the role, or
-- within bytes that have none, of which it is known what P says.
pub data Form (p : Position) (bytes : List ℕ) (v : Role) (P : Position → List ℕ → Type 0) : Type 0 where
  Closed : (lines : List (List ℕ)) (line : List ℕ) (q : Position) (each : AllByRecursion IsLine lines) (one : IsLine line) (stands : position_after p lines ≡ Some q) (role_of : role q line ≡ v) (is : bytes ≡ joined lines ++ (line ++ 10 ∷ [])) → Form p bytes v P
  Unclosed : (lines : List (List ℕ)) (rest : List ℕ) (q : Position) (each : AllByRecursion IsLine lines) (bare : IsUnbroken rest) (stands : position_after p lines ≡ Some q) (known : P q rest) (is : bytes ≡ joined lines ++ rest) → Form p bytes v P

-- two forms of the same bytes, of verdicts that don't act and exclude each other
pub not_both : (p : Position) (bytes : List ℕ) (v w : Role) (P Q : Position → List ℕ → Type 0)
    → ((x : Role) → x ≡ v → (f : Position → Option Position) → followed x f ≡ None) → ((x : Role) → x ≡ w → (f : Position → Option Position) → followed x f ≡ None)
    → (v ≡ w → ⊥) → ((q : Position) (rest : List ℕ) → P q rest → Q q rest → ⊥)
    → Form p bytes v P → Form p bytes w Q → ⊥
not_both p bytes v w P Q stops ends differ exclude (Closed ls l q each one stands role_of is) (Closed ms m r others other there found too) =
    let h : (ls ≡ ms) × (l ≡ m) = same_whole ls ms l m each others one other (sym is ∙ too) in
    let lines : ls ≡ ms = h.0 in
    let line : l ≡ m = h.1 in
    let a : Some q ≡ Some r = sym stands ∙ ap (λ (xs : List (List ℕ)). position_after p xs) lines ∙ there in
    let b : q ≡ r = (cc) in
    let c : role q l ≡ role r m = ap (λ (x : Position). role x l) b ∙ ap (λ (x : List ℕ). role r x) line in
    differ (sym role_of ∙ c ∙ found)
not_both p bytes v w P Q stops ends differ exclude (Closed ls l q each one stands role_of is) (Unclosed ms u r others bare there known too) =
    whole_and_open p ls ms l u q r each others one bare stands there (stops (role q l) role_of) (sym is ∙ too)
not_both p bytes v w P Q stops ends differ exclude (Unclosed ls u q each bare stands known is) (Closed ms m r others other there found too) =
    whole_and_open p ms ls m u r q others each other bare there stands (ends (role r m) found) (sym too ∙ is)
not_both p bytes v w P Q stops ends differ exclude (Unclosed ls u q each bare stands known is) (Unclosed ms x r others shut there found too) =
    let h : (ls ≡ ms) × (u ≡ x) = same_open ls ms u x each others bare shut (sym is ∙ too) in
    let a : Some q ≡ Some r = sym stands ∙ ap (λ (xs : List (List ℕ)). position_after p xs) h.0 ∙ there in
    let b : q ≡ r = (cc) in
    exclude r x (subst (λ (y : List ℕ). P r y) h.1 (subst (λ (y : Position). P y u) b known)) found

-- What is known of bytes without a newline at the end, by the status.
abbrev pub LastLine : Role → ℕ → Position → List ℕ → Type 0
LastLine v size q rest = (length rest ≤ 70000) × (0 < length rest) × (role q rest ≡ v) × (size < budget)

abbrev pub LastOrLong : ℕ → Position → List ℕ → Type 0
LastOrLong size q rest = LastLine Refused size q rest ⊎ (length rest ≡ 70001)

abbrev pub LeftOpen : ℕ → Position → List ℕ → Type 0
LeftOpen size q rest = (rest ≡ []) ⊎ (((length rest ≤ 70000) × (size ≡ budget)) ⊎ ((length rest ≤ 70000) × ((t : Position) × (followed (role q rest) (λ next. Some next) ≡ Some t)) × (size < budget)))

done_and_refused : (size : ℕ) (q : Position) (rest : List ℕ) → LastLine Ends size q rest → LastOrLong size q rest → ⊥
done_and_refused size q rest last (inl other) = let e : Ends ≡ Refused = sym last.2 ∙ other.2 in (cc)
done_and_refused size q rest last (inr long) = omega (arith, last.0, long)

open_and_last : (v : Role) (size : ℕ) (q : Position) (rest : List ℕ) → ((f : Position → Option Position) → followed v f ≡ None) → LastLine v size q rest → LeftOpen size q rest → ⊥
open_and_last v size q rest stops last (inl none) = let h : length rest ≡ length {A = ℕ} [] = ap length none in omega (arith, last.1, h)
open_and_last v size q rest stops last (inr (inl full)) = omega (arith, last.3, full.1)
open_and_last v size q rest stops last (inr (inr acted)) =
    let a : followed v (λ next. Some next) ≡ Some acted.1.0 = subst (λ (x : Role). followed x (λ next. Some next) ≡ Some acted.1.0) last.2 acted.1.1 in
    let b : followed v (λ next. Some next) ≡ None = stops (λ next. Some next) in
    let c : Some acted.1.0 ≡ None = sym a ∙ b in
    (cc)

open_and_refused : (size : ℕ) (q : Position) (rest : List ℕ) → LastOrLong size q rest → LeftOpen size q rest → ⊥
open_and_refused size q rest (inl last) bare = open_and_last Refused size q rest (λ f. refl) last bare
open_and_refused size q rest (inr long) (inl none) = let h : length rest ≡ length {A = ℕ} [] = ap length none in omega (arith, long, h)
open_and_refused size q rest (inr long) (inr (inl full)) = omega (arith, long, full.0)
open_and_refused size q rest (inr long) (inr (inr acted)) = omega (arith, long, acted.0)

line_form : (p : Position) (bytes : List ℕ) (v : Role) (P : Position → List ℕ → Type 0) (lines : List (List ℕ)) (rest line : List ℕ) (q : Position) (at_end : Type 0)
    → AllByRecursion IsLine lines → position_after p lines ≡ Some q → bytes ≡ joined lines ++ rest → role q line ≡ v
    → (at_end → LastLine v (length (joined lines ++ rest)) q rest → P q rest) → (at_end → length (joined lines ++ rest) < budget)
    → Spells at_end line rest → Form p bytes v P
line_form p bytes v P lines rest line q at_end each stands is role_of known small spells =
    elim spells.1 [
      | inl whole ↦ Closed lines line q each spells.0 stands role_of (is ∙ ap (λ (x : List ℕ). joined lines ++ x) whole)
      | inr last ↦
          let back : line ≡ rest = sym last.0 in
          Unclosed lines rest q each (subst (λ (x : List ℕ). IsUnbroken x) back spells.0.unbroken) stands
          (known last.2 (subst (λ (x : List ℕ). length x ≤ 70000) back spells.0.short, subst (λ (x : List ℕ). 0 < length x) back last.1, subst (λ (x : List ℕ). role q x ≡ v) back role_of, small last.2))
          is
    ]

done_form : {X : Type 0} (position : X → Position) (step : X → List ℕ → List ℕ → X → Type 0) (under : X → List ℕ → List ℕ → Type 0) → Follows position step → (first : X) (source : SourceUse) (sink : SinkUse)
    → (e : Ended position step under first source sink Done) → Form (position first) (joined e.lines ++ e.rest) Ends (LastLine Ends (length (joined e.lines ++ e.rest)))
done_form position step under follows first source sink e =
    line_form (position first) (joined e.lines ++ e.rest) Ends (LastLine Ends (length (joined e.lines ++ e.rest))) e.lines e.rest e.cause.0 (position e.state)
    (IsAtEnd source.left_now × (length (joined e.lines ++ e.rest) < budget)) e.each (run_position position step follows first e.lines e.written e.state e.runs) refl e.cause.2 (λ at h. h) (λ at. at.1) e.cause.1

refused_form : {X : Type 0} (position : X → Position) (step : X → List ℕ → List ℕ → X → Type 0) (under : X → List ℕ → List ℕ → Type 0) → Follows position step → (first : X) (source : SourceUse) (sink : SinkUse)
    → (e : Ended position step under first source sink FaultLine) → Form (position first) (joined e.lines ++ e.rest) Refused (LastOrLong (length (joined e.lines ++ e.rest)))
refused_form position step under follows first source sink e =
    let stands : position_after (position first) e.lines ≡ Some (position e.state) = run_position position step follows first e.lines e.written e.state e.runs in
    elim e.cause.0 [
      | inl line ↦ line_form (position first) (joined e.lines ++ e.rest) Refused (LastOrLong (length (joined e.lines ++ e.rest))) e.lines e.rest line.0 (position e.state)
          (IsAtEnd source.left_now × (length (joined e.lines ++ e.rest) < budget)) e.each stands refl line.2 (λ at h. inl h) (λ at. at.1) line.1
      | inr long ↦ Unclosed e.lines e.rest (position e.state) e.each long.0 stands (inr long.1) refl
    ]

open_form : {X : Type 0} (position : X → Position) (step : X → List ℕ → List ℕ → X → Type 0) (under : X → List ℕ → List ℕ → Type 0) → Follows position step → (first : X) (source : SourceUse) (sink : SinkUse) (v : Role)
    → (e : Ended position step under first source sink NoEnd) → Form (position first) (joined e.lines ++ e.rest) v (LeftOpen (length (joined e.lines ++ e.rest)))
open_form position step under follows first source sink v e =
    let stands : position_after (position first) e.lines ≡ Some (position e.state) = run_position position step follows first e.lines e.written e.state e.runs in
    elim e.cause [
      | inl none ↦ Unclosed e.lines e.rest (position e.state) e.each (subst (λ (x : List ℕ). IsUnbroken x) (sym none.0) tt) stands (inl none.0) refl
      | inr other ↦ elim other [
        | inl full ↦ Unclosed e.lines e.rest (position e.state) e.each full.0.unbroken stands (inr (inl (full.0.short, full.2))) refl
        | inr acted ↦ Unclosed e.lines e.rest (position e.state) e.each acted.1.unbroken stands
            (inr (inr (acted.1.short, (position acted.0, follows e.state e.rest e.tail acted.0 acted.3), acted.4.1))) refl
      ]
    ]

-- what two readings took of one told input
pub same_bytes : (old now : Option (List ℕ)) (left a b : List ℕ) → old ≡ Some left → Takes old a now → Takes old b now → a ≡ b
same_bytes old None left a b told one other = let h : None ≡ Some left = sym one ∙ told in absurd (cc)
same_bytes old (Some now) left a b told one other =
    let i : Some (a ++ now) ≡ Some (b ++ now) = sym one ∙ other in
    let h : a ++ now ≡ b ++ now = (cc) in
    append_cancel_right a b now h

ends_differ : Ends ≡ Refused → ⊥
ends_differ is = (cc)

done_not_refused : {X : Type 0} (position : X → Position) (step : X → List ℕ → List ℕ → X → Type 0) (under : X → List ℕ → List ℕ → Type 0) → Follows position step → (first : X) (source : SourceUse) (sink also : SinkUse) → IsTold source
    → Ended position step under first source sink Done → Ended position step under first source also FaultLine → ⊥
done_not_refused position step under follows first source sink also told one other =
    let same : joined other.lines ++ other.rest ≡ joined one.lines ++ one.rest = same_bytes source.left source.left_now told.0 _ _ told.1 other.taken one.taken in
    let form = subst (λ (x : List ℕ). Form (position first) x Refused (LastOrLong (length x))) same (refused_form position step under follows first source also other) in
    not_both (position first) (joined one.lines ++ one.rest) Ends Refused _ _ ends_stop refused_stop ends_differ (done_and_refused (length (joined one.lines ++ one.rest)))
    (done_form position step under follows first source sink one) form

done_not_open : {X : Type 0} (position : X → Position) (step : X → List ℕ → List ℕ → X → Type 0) (under : X → List ℕ → List ℕ → Type 0) → Follows position step → (first : X) (source : SourceUse) (sink also : SinkUse) → IsTold source
    → Ended position step under first source sink Done → Ended position step under first source also NoEnd → ⊥
done_not_open position step under follows first source sink also told one other =
    let same : joined other.lines ++ other.rest ≡ joined one.lines ++ one.rest = same_bytes source.left source.left_now told.0 _ _ told.1 other.taken one.taken in
    let form = subst (λ (x : List ℕ). Form (position first) x Refused (LeftOpen (length x))) same (open_form position step under follows first source also Refused other) in
    not_both (position first) (joined one.lines ++ one.rest) Ends Refused _ _ ends_stop refused_stop ends_differ
    (λ q rest. open_and_last Ends (length (joined one.lines ++ one.rest)) q rest (λ f. refl))
    (done_form position step under follows first source sink one) form

refused_not_open : {X : Type 0} (position : X → Position) (step : X → List ℕ → List ℕ → X → Type 0) (under : X → List ℕ → List ℕ → Type 0) → Follows position step → (first : X) (source : SourceUse) (sink also : SinkUse) → IsTold source
    → Ended position step under first source sink FaultLine → Ended position step under first source also NoEnd → ⊥
refused_not_open position step under follows first source sink also told one other =
    let same : joined other.lines ++ other.rest ≡ joined one.lines ++ one.rest = same_bytes source.left source.left_now told.0 _ _ told.1 other.taken one.taken in
    let form = subst (λ (x : List ℕ). Form (position first) x Ends (LeftOpen (length x))) same (open_form position step under follows first source also Ends other) in
    not_both (position first) (joined one.lines ++ one.rest) Refused Ends _ _ refused_stop ends_stop (λ is. ends_differ (sym is)) (open_and_refused (length (joined one.lines ++ one.rest)))
    (refused_form position step under follows first source sink one) form

-- a count below its end rose, or stood still
not_risen : (before now : ℕ) → before < 18446744073709551615 → Rose before now → now ≡ before → ⊥
not_risen before now below rose kept = omega (arith, below, rose, kept)

-- a status says whether the source failed, and whether the sink did
read_shown : (before now : ℕ) (a b : Status) → before < 18446744073709551615 → HasCause before now (a ≡ ReadFault) → HasCause before now (b ≡ ReadFault) → a ≡ ReadFault → (b ≡ ReadFault → ⊥) → ⊥
read_shown before now a b below one other is not = not_risen before now below (one.failed is) (other.kept not)

write_shown : (before now : ℕ) (a b : Status) → before < 18446744073709551615 → HasCause before now (a ≡ WriteFault) → HasCause before now (b ≡ WriteFault) → a ≡ WriteFault → (b ≡ WriteFault → ⊥) → ⊥
write_shown before now a b below one other is not = not_risen before now below (one.failed is) (other.kept not)

-- what no count shows: both read to an end of the script's own
by_bytes : {X : Type 0} (position : X → Position) (step : X → List ℕ → List ℕ → X → Type 0) (under : X → List ℕ → List ℕ → Type 0) → Follows position step → (first : X) (source : SourceUse) (sink also : SinkUse) (a b : Status) → IsTold source
    → Ended position step under first source sink a → Ended position step under first source also b
    → a ≢ Memory → b ≢ Memory → (a ≡ ReadFault → b ≡ ReadFault) → (b ≡ ReadFault → a ≡ ReadFault) → (a ≡ WriteFault → b ≡ WriteFault) → (b ≡ WriteFault → a ≡ WriteFault) → a ≡ b
by_bytes position step under follows first source sink also WrongWords b told one other na nb ra rb wa wb = absurd one.cause
by_bytes position step under follows first source sink also Memory b told one other na nb ra rb wa wb = absurd (na refl)
by_bytes position step under follows first source sink also ReadFault b told one other na nb ra rb wa wb = sym (ra refl)
by_bytes position step under follows first source sink also WriteFault b told one other na nb ra rb wa wb = sym (wa refl)
by_bytes position step under follows first source sink also Done WrongWords told one other na nb ra rb wa wb = absurd other.cause
by_bytes position step under follows first source sink also Done Memory told one other na nb ra rb wa wb = absurd (nb refl)
by_bytes position step under follows first source sink also Done ReadFault told one other na nb ra rb wa wb = rb refl
by_bytes position step under follows first source sink also Done WriteFault told one other na nb ra rb wa wb = wb refl
by_bytes position step under follows first source sink also Done Done told one other na nb ra rb wa wb = refl
by_bytes position step under follows first source sink also Done FaultLine told one other na nb ra rb wa wb = absurd (done_not_refused position step under follows first source sink also told one other)
by_bytes position step under follows first source sink also Done NoEnd told one other na nb ra rb wa wb = absurd (done_not_open position step under follows first source sink also told one other)
by_bytes position step under follows first source sink also FaultLine WrongWords told one other na nb ra rb wa wb = absurd other.cause
by_bytes position step under follows first source sink also FaultLine Memory told one other na nb ra rb wa wb = absurd (nb refl)
by_bytes position step under follows first source sink also FaultLine ReadFault told one other na nb ra rb wa wb = rb refl
by_bytes position step under follows first source sink also FaultLine WriteFault told one other na nb ra rb wa wb = wb refl
by_bytes position step under follows first source sink also FaultLine Done told one other na nb ra rb wa wb = absurd (done_not_refused position step under follows first source also sink told other one)
by_bytes position step under follows first source sink also FaultLine FaultLine told one other na nb ra rb wa wb = refl
by_bytes position step under follows first source sink also FaultLine NoEnd told one other na nb ra rb wa wb = absurd (refused_not_open position step under follows first source sink also told one other)
by_bytes position step under follows first source sink also NoEnd WrongWords told one other na nb ra rb wa wb = absurd other.cause
by_bytes position step under follows first source sink also NoEnd Memory told one other na nb ra rb wa wb = absurd (nb refl)
by_bytes position step under follows first source sink also NoEnd ReadFault told one other na nb ra rb wa wb = rb refl
by_bytes position step under follows first source sink also NoEnd WriteFault told one other na nb ra rb wa wb = wb refl
by_bytes position step under follows first source sink also NoEnd Done told one other na nb ra rb wa wb = absurd (done_not_open position step under follows first source also sink told other one)
by_bytes position step under follows first source sink also NoEnd FaultLine told one other na nb ra rb wa wb = absurd (refused_not_open position step under follows first source also sink told other one)
by_bytes position step under follows first source sink also NoEnd NoEnd told one other na nb ra rb wa wb = refl

-- whether the status is that one
is_read : (s : Status) → (s ≡ ReadFault) ⊎ (s ≡ ReadFault → ⊥)
is_read Done = inr (λ is. cc)
is_read WrongWords = inr (λ is. cc)
is_read FaultLine = inr (λ is. cc)
is_read ReadFault = inl refl
is_read WriteFault = inr (λ is. cc)
is_read Memory = inr (λ is. cc)
is_read NoEnd = inr (λ is. cc)

is_write : (s : Status) → (s ≡ WriteFault) ⊎ (s ≡ WriteFault → ⊥)
is_write Done = inr (λ is. cc)
is_write WrongWords = inr (λ is. cc)
is_write FaultLine = inr (λ is. cc)
is_write ReadFault = inr (λ is. cc)
is_write WriteFault = inl refl
is_write Memory = inr (λ is. cc)
is_write NoEnd = inr (λ is. cc)

both_read : (before now : ℕ) (a b : Status) → before < 18446744073709551615 → HasCause before now (a ≡ ReadFault) → HasCause before now (b ≡ ReadFault) → a ≡ ReadFault → b ≡ ReadFault
both_read before now a b below one other is = elim (is_read b) [ inl it ↦ it | inr isnt ↦ absurd (read_shown before now a b below one other is isnt) ]

both_write : (before now : ℕ) (a b : Status) → before < 18446744073709551615 → HasCause before now (a ≡ WriteFault) → HasCause before now (b ≡ WriteFault) → a ≡ WriteFault → b ≡ WriteFault
both_write before now a b below one other is = elim (is_write b) [ inl it ↦ it | inr isnt ↦ absurd (write_shown before now a b below one other is isnt) ]

pub one_status_law : {X : Type 0} (position : X → Position) (step : X → List ℕ → List ℕ → X → Type 0) (under : X → List ℕ → List ℕ → Type 0) → Follows position step
    → (first : X) (source : SourceUse) (sink other : SinkUse) (a b : Status)
    → IsTold source → CountAlike sink other → source.faults < 18446744073709551615 → sink.faults < 18446744073709551615
    → Outcome position step under first source sink a → Outcome position step under first source other b
    → a ≢ Memory → b ≢ Memory → a ≡ b
one_status_law position step under follows first source sink other a b told alike few little one also na nb =
    let same : HasCause sink.faults sink.faults_now (b ≡ WriteFault) =
    subst (λ (n : ℕ). HasCause n sink.faults_now (b ≡ WriteFault)) alike.0 (subst (λ (n : ℕ). HasCause other.faults n (b ≡ WriteFault)) alike.1 also.write) in
    by_bytes position step under follows first source sink other a b told one.ended also.ended na nb
    (both_read source.faults source.faults_now a b few one.read also.read) (both_read source.faults source.faults_now b a few also.read one.read)
    (both_write sink.faults sink.faults_now a b little one.write same) (both_write sink.faults sink.faults_now b a little same one.write)
