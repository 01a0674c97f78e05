-- A script that has its end comes to it.
use Rattle.std.proofs.Common.{◌≡◌, ◌∙◌, ℕ, ◌+◌, ◌<◌, ◌≤◌, ◌⊎◌, inl, inr, List, [], ◌∷◌, ◌++◌, length, length-append, refl, ap, sym, subst, append_assoc, arith, Option, None, Some}
use Rattle.std.specs.List.{AllByRecursion}
use Rattle.std.proofs.lemmas.List.{append-nil}
use Rattle.outside.specs.Causes.{Rose}
use Rattle.outside.specs.Streams.{Takes, IsAtEnd}
use Rattle.script_lines.specs.Positions.{Position}
use Rattle.script_lines.specs.Grammar.{Ends, Refused}
use Rattle.script_lines.specs.Grammar.{role, followed, position_after}
use Rattle.script_lines.specs.Lines.{IsUnbroken, IsLine, joined}
use Rattle.script_run.specs.declared.status.Status.{Status}
use Rattle.script_run.specs.declared.status.Status.TheVariants.{Done, WrongWords, FaultLine, ReadFault, WriteFault, Memory, NoEnd}
use Rattle.script_run.specs.Transcript.{budget, Ended}
use Rattle.script_run.specs.Outcome.{Outcome}
use Rattle.script_run.specs.Uses.{SourceUse, SinkUse}
use Rattle.script_run.specs.Complete.{HasEnd}
use Rattle.script_run.proofs.Splits.{Compared, On, Back, compared, no_break, first_break, place_on, each_behind}
use Rattle.script_run.proofs.OneStatus.{Follows, run_position, ends_stop, refused_stop}

-- bytes without a newline that are longer than a line don't begin with it and its newline
long_break : (u now m x : List ℕ) → IsUnbroken u → length m < length u → u ++ now ≡ m ++ 10 ∷ x → ⊥
long_break [] now m x unbroken longer is = omega (arith, longer)
long_break (c ∷ u) now [] x unbroken longer is = unbroken.0 (cc)
long_break (c ∷ u) now (d ∷ m) x unbroken longer is = long_break u now m x unbroken.1 (omega (arith, longer)) (cc)

-- What stands behind the lines that acted, where the script ended otherwise than by `end`: a refused line
-- and its newline; or bytes without a newline up to the end, which are none, or a refused line, or a line
-- that acts; or bytes without a newline, more of them than any line has that still fits.
pub data Behind (q : Position) (size : ℕ) (y : List ℕ) : Type 0 where
  Wrong : (line now : List ℕ) (one : IsLine line) (role_of : role q line ≡ Refused) (is : y ≡ line ++ 10 ∷ now) → Behind q size y
  Bare : (unbroken : IsUnbroken y) (fails : role q y ≡ Ends → 0 < length y → ⊥) → Behind q size y
  Long : (rest now : List ℕ) (unbroken : IsUnbroken rest) (longer : (m : List ℕ) → length m ≤ 70000 → size + (length m + 1) ≤ budget → length m < length rest) (is : y ≡ rest ++ now) → Behind q size y

-- it isn't the line `end` and its newline
not_closed : (q : Position) (size : ℕ) (y last behind : List ℕ) → IsLine last → role q last ≡ Ends → size + (length last + 1) ≤ budget → Behind q size y → y ≡ last ++ 10 ∷ behind → ⊥
not_closed q size y last behind one ends fits (Wrong line now other role_of is) same =
    let h : (line ≡ last) × (now ≡ behind) = first_break line last now behind other.unbroken one.unbroken (sym is ∙ same) in
    let e : Refused ≡ Ends = sym role_of ∙ ap (λ (x : List ℕ). role q x) h.0 ∙ ends in
    (cc)
not_closed q size y last behind one ends fits (Bare unbroken fails) same = no_break y last behind unbroken same
not_closed q size y last behind one ends fits (Long rest now unbroken longer is) same = long_break rest now last behind unbroken (longer last one.short fits) (sym is ∙ same)

-- nor the line `end` without a newline
not_last : (q : Position) (size : ℕ) (y last : List ℕ) → IsLine last → role q last ≡ Ends → 0 < length last → size + length last < budget → Behind q size y → y ≡ last → ⊥
not_last q size y last one ends some fits (Wrong line now other role_of is) same = no_break last line now one.unbroken (sym same ∙ is)
not_last q size y last one ends some fits (Bare unbroken fails) same =
    fails (ap (λ (x : List ℕ). role q x) same ∙ ends) (subst (λ (x : List ℕ). 0 < length x) (sym same) some)
not_last q size y last one ends some fits (Long rest now unbroken longer is) same =
    let a : length last < length rest = longer last one.short (omega (arith, fits)) in
    let b : length last ≡ length (rest ++ now) = ap length (sym same ∙ is) in
    omega (arith, a, b, length-append rest now)

-- nor a line that acts and its newline
not_acting : (q : Position) (size : ℕ) (y m x : List ℕ) (f : Position → Option Position) (r : Position) → IsLine m → followed (role q m) f ≡ Some r → size + (length m + 1) ≤ budget → Behind q size y → y ≡ m ++ 10 ∷ x → ⊥
not_acting q size y m x f r one acts fits (Wrong line now other role_of is) same =
    let h : (line ≡ m) × (now ≡ x) = first_break line m now x other.unbroken one.unbroken (sym is ∙ same) in
    let a : followed (role q m) f ≡ None = refused_stop (role q m) (ap (λ (z : List ℕ). role q z) (sym h.0) ∙ role_of) f in
    let b : None ≡ Some r = sym a ∙ acts in
    (cc)
not_acting q size y m x f r one acts fits (Bare unbroken fails) same = no_break y m x unbroken same
not_acting q size y m x f r one acts fits (Long rest now unbroken longer is) same = long_break rest now m x unbroken (longer m one.short fits) (sym is ∙ same)

joined_size : (lines more : List (List ℕ)) → length (joined (lines ++ more)) ≡ length (joined lines) + length (joined more)
joined_size [] more = omega arith
joined_size (l ∷ lines) more =
    omega (arith, joined_size lines more, length-append l (10 ∷ joined (lines ++ more)), length-append l (10 ∷ joined lines))

-- the script's own lines go on behind those that were played
goes_on : (p : Position) (good lines : List (List ℕ)) (m : List ℕ) (more : List (List ℕ)) (q r : Position) (y x : List ℕ) → AllByRecursion IsLine good → position_after p good ≡ Some r → position_after p lines ≡ Some q
    → good ≡ lines ++ m ∷ more → length (joined good) ≤ budget → Behind q (length (joined lines)) y → y ≡ joined (m ∷ more) ++ x → ⊥
goes_on p good lines m more q r y x each stands there is fits found same =
    let one : IsLine m = (each_behind lines (m ∷ more) good is each).0 in
    let acts : followed (role q m) (λ next. position_after next more) ≡ Some r = sym (place_on p lines (m ∷ more) q there) ∙ ap (λ (z : List (List ℕ)). position_after p z) (sym is) ∙ stands in
    let size : length (joined good) ≡ length (joined lines) + length (joined (m ∷ more)) = ap (λ (z : List (List ℕ)). length (joined z)) is ∙ joined_size lines (m ∷ more) in
    not_acting q (length (joined lines)) y m (joined more ++ x) (λ next. position_after next more) r one acts
    (omega (arith, fits, size, length-append m (10 ∷ joined more))) found (same ∙ append_assoc m (10 ∷ joined more) x)

same_place : (p : Position) (good lines : List (List ℕ)) (q r : Position) → good ≡ lines → position_after p good ≡ Some r → position_after p lines ≡ Some q → r ≡ q
same_place p good lines q r is stands there =
    let h : Some r ≡ Some q = sym stands ∙ ap (λ (z : List (List ℕ)). position_after p z) is ∙ there in
    (cc)

-- a played line behind all of the script's own would be its `end`
past_end : (p : Position) (good lines : List (List ℕ)) (m : List ℕ) (more : List (List ℕ)) (q r : Position) (last behind y : List ℕ) → AllByRecursion IsLine lines → IsLine last → role r last ≡ Ends → position_after p good ≡ Some r → position_after p lines ≡ Some q
    → lines ≡ good ++ m ∷ more → last ++ 10 ∷ behind ≡ joined (m ∷ more) ++ y → ⊥
past_end p good lines m more q r last behind y each one ends stands there is same =
    let k : IsLine m = (each_behind good (m ∷ more) lines is each).0 in
    let h : (last ≡ m) × (behind ≡ joined more ++ y) = first_break last m behind (joined more ++ y) one.unbroken k.unbroken (same ∙ append_assoc m (10 ∷ joined more) y) in
    let a : followed (role r m) (λ next. position_after next more) ≡ None = ends_stop (role r m) (ap (λ (z : List ℕ). role r z) (sym h.0) ∙ ends) (λ next. position_after next more) in
    let b : Some q ≡ None = sym there ∙ ap (λ (z : List (List ℕ)). position_after p z) is ∙ place_on p good (m ∷ more) r stands ∙ a in
    (cc)

closed_by : (p : Position) (good lines : List (List ℕ)) (q r : Position) (last behind y : List ℕ) → AllByRecursion IsLine good → AllByRecursion IsLine lines → IsLine last → role r last ≡ Ends → position_after p good ≡ Some r → position_after p lines ≡ Some q
    → length (joined good) + (length last + 1) ≤ budget → Behind q (length (joined lines)) y → Compared good lines (last ++ 10 ∷ behind) y → ⊥
closed_by p good lines q r last behind y each others one ends stands there fits found (On [] is same) =
    let g : good ≡ lines = sym (is ∙ append-nil good) in
    let e : role q last ≡ Ends = subst (λ (z : Position). role z last ≡ Ends) (same_place p good lines q r g stands there) ends in
    not_closed q (length (joined lines)) y last behind one e (subst (λ (z : List (List ℕ)). length (joined z) + (length last + 1) ≤ budget) g fits) found (sym same)
closed_by p good lines q r last behind y each others one ends stands there fits found (On (m ∷ more) is same) = past_end p good lines m more q r last behind y others one ends stands there is same
closed_by p good lines q r last behind y each others one ends stands there fits found (Back [] is same) =
    let g : good ≡ lines = is ∙ append-nil lines in
    let e : role q last ≡ Ends = subst (λ (z : Position). role z last ≡ Ends) (same_place p good lines q r g stands there) ends in
    not_closed q (length (joined lines)) y last behind one e (subst (λ (z : List (List ℕ)). length (joined z) + (length last + 1) ≤ budget) g fits) found same
closed_by p good lines q r last behind y each others one ends stands there fits found (Back (m ∷ more) is same) =
    goes_on p good lines m more q r y (last ++ 10 ∷ behind) each stands there is (omega (arith, fits)) found same

bare_by : (p : Position) (good lines : List (List ℕ)) (q r : Position) (last y : List ℕ) → AllByRecursion IsLine good → AllByRecursion IsLine lines → IsLine last → role r last ≡ Ends → 0 < length last → position_after p good ≡ Some r → position_after p lines ≡ Some q
    → length (joined good) + length last < budget → Behind q (length (joined lines)) y → Compared good lines last y → ⊥
bare_by p good lines q r last y each others one ends some stands there fits found (On [] is same) =
    let g : good ≡ lines = sym (is ∙ append-nil good) in
    let e : role q last ≡ Ends = subst (λ (z : Position). role z last ≡ Ends) (same_place p good lines q r g stands there) ends in
    not_last q (length (joined lines)) y last one e some (subst (λ (z : List (List ℕ)). length (joined z) + length last < budget) g fits) found (sym same)
bare_by p good lines q r last y each others one ends some stands there fits found (On (m ∷ more) is same) = no_break last m (joined more ++ y) one.unbroken (same ∙ append_assoc m (10 ∷ joined more) y)
bare_by p good lines q r last y each others one ends some stands there fits found (Back [] is same) =
    let g : good ≡ lines = is ∙ append-nil lines in
    let e : role q last ≡ Ends = subst (λ (z : Position). role z last ≡ Ends) (same_place p good lines q r g stands there) ends in
    not_last q (length (joined lines)) y last one e some (subst (λ (z : List (List ℕ)). length (joined z) + length last < budget) g fits) found same
bare_by p good lines q r last y each others one ends some stands there fits found (Back (m ∷ more) is same) =
    goes_on p good lines m more q r y last each stands there is (omega (arith, fits)) found same

-- nothing else than its end stands behind the lines of a script that has one
no_other_end : (p : Position) (bytes : List ℕ) (lines : List (List ℕ)) (q : Position) (y : List ℕ) → HasEnd p bytes → AllByRecursion IsLine lines → position_after p lines ≡ Some q
    → bytes ≡ joined lines ++ y → Behind q (length (joined lines)) y → ⊥
no_other_end p bytes lines q y script each there is found =
    elim script.spelled [
      | inl closed ↦ closed_by p script.lines lines q script.position script.last closed.0 y script.each each script.one script.ends script.stands there closed.2 found
          (compared script.lines lines (script.last ++ 10 ∷ closed.0) y script.each each (sym closed.1 ∙ is))
      | inr bare ↦ bare_by p script.lines lines q script.position script.last y script.each each script.one script.ends bare.1 script.stands there
          (let size : length bytes ≡ length (joined script.lines ++ script.last) = ap length bare.0 in omega (arith, bare.2, size, length-append (joined script.lines) script.last)) found
          (compared script.lines lines script.last y script.each each (sym bare.0 ∙ is))
    ]

-- nothing is left in a source that is at its end
at_end : (left : Option (List ℕ)) (now : List ℕ) → left ≡ Some now → IsAtEnd left → now ≡ []
at_end None now is ended = let h : None ≡ Some now = is in absurd (cc)
at_end (Some rest) now is ended = let h : rest ≡ now = (cc) in sym h ∙ ended

behind_refused : {X : Type 0} (position : X → Position) (step : X → List ℕ → List ℕ → X → Type 0) (under : X → List ℕ → List ℕ → Type 0) (first : X) (source : SourceUse) (sink : SinkUse) (now : List ℕ) → source.left_now ≡ Some now
    → (e : Ended position step under first source sink FaultLine) → Behind (position e.state) (length (joined e.lines)) (e.rest ++ now)
behind_refused position step under first source sink now left e =
    elim e.cause.0 [
      | inl refused ↦ elim refused.1.1 [
        | inl whole ↦ Wrong refused.0 now refused.1.0 refused.2 (ap (λ (x : List ℕ). x ++ now) whole ∙ append_assoc refused.0 (10 ∷ []) now)
        | inr last ↦
            let same : e.rest ++ now ≡ refused.0 = ap (λ (x : List ℕ). e.rest ++ x) (at_end source.left_now now left last.2.0) ∙ append-nil e.rest ∙ last.0 in
            Bare (subst (λ (x : List ℕ). IsUnbroken x) (sym same) refused.1.0.unbroken)
            (λ ends some. let h : Refused ≡ Ends = sym refused.2 ∙ ap (λ (x : List ℕ). role (position e.state) x) (sym same) ∙ ends in (cc))
      ]
      | inr long ↦ Long e.rest now long.0 (λ m short fits. omega (arith, short, long.1)) refl
    ]

behind_open : {X : Type 0} (position : X → Position) (step : X → List ℕ → List ℕ → X → Type 0) (under : X → List ℕ → List ℕ → Type 0) → Follows position step → (first : X) (source : SourceUse) (sink : SinkUse) (now : List ℕ) → source.left_now ≡ Some now
    → (e : Ended position step under first source sink NoEnd) → Behind (position e.state) (length (joined e.lines)) (e.rest ++ now)
behind_open position step under follows first source sink now left e =
    elim e.cause [
      | inl none ↦
          let same : e.rest ++ now ≡ [] = ap (λ (x : List ℕ). e.rest ++ x) (at_end source.left_now now left none.2.0) ∙ append-nil e.rest ∙ none.0 in
          Bare (subst (λ (x : List ℕ). IsUnbroken x) (sym same) tt) (λ ends some. let h : length (e.rest ++ now) ≡ length {A = ℕ} [] = ap length same in omega (arith, h, some))
      | inr other ↦ elim other [
        | inl full ↦ Long e.rest now full.0.unbroken (λ m short fits. omega (arith, fits, full.2, length-append (joined e.lines) e.rest)) refl
        | inr acted ↦
            let same : e.rest ++ now ≡ e.rest = ap (λ (x : List ℕ). e.rest ++ x) (at_end source.left_now now left acted.4.0) ∙ append-nil e.rest in
            Bare (subst (λ (x : List ℕ). IsUnbroken x) (sym same) acted.1.unbroken)
            (λ ends some.
            let stops : followed (role (position e.state) e.rest) (λ next. Some next) ≡ None = ends_stop (role (position e.state) e.rest) (ap (λ (x : List ℕ). role (position e.state) x) (sym same) ∙ ends) (λ next. Some next) in
            let h : None ≡ Some (position acted.0) = sym stops ∙ follows e.state e.rest e.tail acted.0 acted.3 in
            (cc))
      ]
    ]

told_bytes : (old new : Option (List ℕ)) (left now lines rest : List ℕ) → old ≡ Some left → new ≡ Some now → Takes old (lines ++ rest) new → left ≡ lines ++ (rest ++ now)
told_bytes old new left now lines rest told is took =
    let here : Takes old (lines ++ rest) (Some now) = subst (λ (x : Option (List ℕ)). Takes old (lines ++ rest) x) is took in
    let same : Some left ≡ Some ((lines ++ rest) ++ now) = sym told ∙ here in
    let h : left ≡ (lines ++ rest) ++ now = (cc) in
    h ∙ append_assoc lines rest now

-- by the status, where the source tells what is left
by_status : {X : Type 0} (position : X → Position) (step : X → List ℕ → List ℕ → X → Type 0) (under : X → List ℕ → List ℕ → Type 0) → Follows position step → (first : X) (source : SourceUse) (sink : SinkUse) (left now : List ℕ) (status : Status) → source.left ≡ Some left → source.left_now ≡ Some now
    → HasEnd (position first) left → (Rose source.faults source.faults_now → ⊥) → (Rose sink.faults sink.faults_now → ⊥)
    → Outcome position step under first source sink status → (status ≡ Done) ⊎ (status ≡ Memory)
by_status position step under follows first source sink left now Done told is script read_well wrote_well o = inl refl
by_status position step under follows first source sink left now Memory told is script read_well wrote_well o = inr refl
by_status position step under follows first source sink left now WrongWords told is script read_well wrote_well o = absurd o.ended.cause
by_status position step under follows first source sink left now ReadFault told is script read_well wrote_well o = absurd (read_well (o.read.failed refl))
by_status position step under follows first source sink left now WriteFault told is script read_well wrote_well o = absurd (wrote_well (o.write.failed refl))
by_status position step under follows first source sink left now FaultLine told is script read_well wrote_well o =
    absurd (no_other_end (position first) left o.ended.lines (position o.ended.state) (o.ended.rest ++ now) script o.ended.each
    (run_position position step follows first o.ended.lines o.ended.written o.ended.state o.ended.runs)
    (told_bytes source.left source.left_now left now (joined o.ended.lines) o.ended.rest told is o.ended.taken) (behind_refused position step under first source sink now is o.ended))
by_status position step under follows first source sink left now NoEnd told is script read_well wrote_well o =
    absurd (no_other_end (position first) left o.ended.lines (position o.ended.state) (o.ended.rest ++ now) script o.ended.each
    (run_position position step follows first o.ended.lines o.ended.written o.ended.state o.ended.runs)
    (told_bytes source.left source.left_now left now (joined o.ended.lines) o.ended.rest told is o.ended.taken) (behind_open position step under follows first source sink now is o.ended))

-- a source that told what was left tells what is left now
told_now : (old new : Option (List ℕ)) (left bytes : List ℕ) → old ≡ Some left → Takes old bytes new → (now : List ℕ) × (new ≡ Some now)
told_now old None left bytes told took = let h : None ≡ Some left = sym took ∙ told in absurd (cc)
told_now old (Some now) left bytes told took = (now, refl)

pub comes_to_its_end_law : {X : Type 0} (position : X → Position) (step : X → List ℕ → List ℕ → X → Type 0) (under : X → List ℕ → List ℕ → Type 0) → Follows position step
    → (first : X) (source : SourceUse) (sink : SinkUse) (left : List ℕ) (status : Status) → source.left ≡ Some left
    → HasEnd (position first) left → (Rose source.faults source.faults_now → ⊥) → (Rose sink.faults sink.faults_now → ⊥)
    → Outcome position step under first source sink status → (status ≡ Done) ⊎ (status ≡ Memory)
comes_to_its_end_law position step under follows first source sink left status told script read_well wrote_well o =
    let now = told_now source.left source.left_now left (joined o.ended.lines ++ o.ended.rest) told o.ended.taken in
    by_status position step under follows first source sink left now.0 status told now.1 script read_well wrote_well o
