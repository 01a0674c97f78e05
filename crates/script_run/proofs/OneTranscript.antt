-- A script that is read has one transcript, where nothing is left to a choice.
use Rattle.std.proofs.Common.{◌≡◌, ◌≢◌, ◌∙◌, ◌⊎◌, ℕ, ◌+◌, ◌<◌, List, [], ◌∷◌, ◌++◌, length, Option, Some, None, inl, inr, refl, ap, sym, subst, arith}
use Rattle.std.specs.List.{AllByRecursion}
use Rattle.std.specs.Option.{option_map}
use Rattle.outside.specs.Streams.{Takes, IsAtEnd}
use Rattle.script_lines.specs.Grammar.{role, followed, position_after}
use Rattle.script_lines.specs.Lines.{IsUnbroken, IsLine, joined}
use Rattle.script_lines.specs.Positions.{Position}
use Rattle.script_run.specs.Determined.{StepsOnce, StaysGood}
use Rattle.script_run.specs.Transcript.{budget, Runs, Cause, Ended}
use Rattle.script_run.specs.Uses.{SourceUse, SinkUse, IsTold}
use Rattle.script_run.specs.declared.status.Status.{Status}
use Rattle.script_run.specs.declared.status.Status.TheVariants.{Done, WrongWords, FaultLine, ReadFault, WriteFault, Memory, NoEnd}
use Rattle.script_run.proofs.OneStatus.{Follows, run_position, ends_stop, refused_stop, same_bytes}
use Rattle.script_run.proofs.Splits.{same_open, same_whole, whole_and_open}

-- where what was read stops: behind the newline of a line that doesn't act, or within a line
abbrev Shape : Position → List ℕ → Type 0
Shape q rest = ((line : List ℕ) × IsLine line × (rest ≡ line ++ 10 ∷ []) × ((f : Position → Option Position) → followed (role q line) f ≡ None)) ⊎ IsUnbroken rest

-- bytes fall into lines that act and a rest in one way
same_rest : (p : Position) (ls ms : List (List ℕ)) (x y : List ℕ) (q r : Position) → AllByRecursion IsLine ls → AllByRecursion IsLine ms
    → position_after p ls ≡ Some q → position_after p ms ≡ Some r → Shape q x → Shape r y → joined ls ++ x ≡ joined ms ++ y → (ls ≡ ms) × (x ≡ y)
same_rest p ls ms x y q r each others stands there (inl a) (inl b) is =
    let h : (ls ≡ ms) × (a.0 ≡ b.0) = same_whole ls ms a.0 b.0 each others a.1 b.1 (sym (ap (λ (z : List ℕ). joined ls ++ z) a.2) ∙ is ∙ ap (λ (z : List ℕ). joined ms ++ z) b.2) in
    (h.0, a.2 ∙ ap (λ (l : List ℕ). l ++ 10 ∷ []) h.1 ∙ sym b.2)
same_rest p ls ms x y q r each others stands there (inl a) (inr b) is =
    absurd (whole_and_open p ls ms a.0 y q r each others a.1 b stands there a.3 (sym (ap (λ (z : List ℕ). joined ls ++ z) a.2) ∙ is))
same_rest p ls ms x y q r each others stands there (inr a) (inl b) is =
    absurd (whole_and_open p ms ls b.0 x r q others each b.1 a there stands b.3 (sym (ap (λ (z : List ℕ). joined ms ++ z) b.2) ∙ sym is))
same_rest p ls ms x y q r each others stands there (inr a) (inr b) is = same_open ls ms x y each others a b is

module _ {X : Type 0} (position : X → Position) (step : X → List ℕ → List ℕ → X → Type 0) (under : X → List ℕ → List ℕ → Type 0) (Good : X → Type 0) where
  -- from a good state a line that acts writes one thing
  abbrev Once : Type 0
  Once = StepsOnce step Good

  -- and leads to a good state
  abbrev Stays : Type 0
  Stays = StaysGood step Good

  runs_once : Once → Stays → (s : X) (lines : List (List ℕ)) (a b : List ℕ) (t u : X) → Good s → Runs step s lines a t → Runs step s lines b u → (a ≡ b) × (t ≡ u)
  runs_once once stays s [] a b t u good one other = (one.0 ∙ sym other.0, one.1 ∙ sym other.1)
  runs_once once stays s (line ∷ lines) a b t u good one other =
      let here = once s one.0 other.0 line one.1 other.1 good one.3 other.3 in
      let later : Runs step one.0 lines other.2 u = subst (λ (m : X). Runs step m lines other.2 u) (sym here.1) other.4 in
      let same = runs_once once stays one.0 lines one.2 other.2 t u (stays s one.0 line one.1 good one.3) one.4 later in
      (one.5 ∙ ap (λ (o : List ℕ). o ++ one.2) here.0 ∙ ap (λ (o : List ℕ). other.1 ++ o) same.0 ∙ sym other.5, same.1)

  runs_good : Stays → (s : X) (lines : List (List ℕ)) (a : List ℕ) (t : X) → Good s → Runs step s lines a t → Good t
  runs_good stays s [] a t good run = subst Good (sym run.1) good
  runs_good stays s (line ∷ lines) a t good run = runs_good stays run.0 lines run.2 t (stays s run.0 line run.1 good run.3) run.4

  -- where the bytes stop, by the status
  shape_of : (status : Status) (at_end full : Type 0) (s : X) (number : ℕ) (rest tail : List ℕ) → status ≢ Memory → status ≢ WriteFault → Cause position step under status at_end full s number rest tail → Shape (position s) rest
  shape_of Done at_end full s number rest tail ample taken cause =
      elim (cause.1.1) [
        | inl whole ↦ inl (cause.0, cause.1.0, whole, ends_stop (role (position s) cause.0) cause.2)
        | inr last ↦ inr (subst IsUnbroken (sym last.0) cause.1.0.unbroken)
      ]
  shape_of WrongWords at_end full s number rest tail ample taken cause = absurd cause
  shape_of FaultLine at_end full s number rest tail ample taken cause =
      elim (cause.0) [
        | inl line ↦ elim (line.1.1) [
          | inl whole ↦ inl (line.0, line.1.0, whole, refused_stop (role (position s) line.0) line.2)
          | inr last ↦ inr (subst IsUnbroken (sym last.0) line.1.0.unbroken)
        ]
        | inr long ↦ inr long.0
      ]
  shape_of ReadFault at_end full s number rest tail ample taken cause = inr cause.0.unbroken
  shape_of WriteFault at_end full s number rest tail ample taken cause = absurd (taken refl)
  shape_of Memory at_end full s number rest tail ample taken cause = absurd (ample refl)
  shape_of NoEnd at_end full s number rest tail ample taken cause =
      elim cause [
        | inl none ↦ inr (subst IsUnbroken (sym none.0) tt)
        | inr other ↦ elim other [
          | inl spent ↦ inr spent.0.unbroken
          | inr acted ↦ inr acted.1.unbroken
        ]
      ]

  -- what a last line wrote, where no line `end` came
  abbrev Unended : Type 0 → Type 0 → X → List ℕ → List ℕ → Type 0
  Unended at_end full s rest tail =
      ((rest ≡ []) × (tail ≡ []) × at_end)
      ⊎ ((IsLine rest × (tail ≡ []) × full)
      ⊎ ((t : X) × IsLine rest × (0 < length rest) × step s rest tail t × at_end))

  unended_once : Once → (s : X) (size : ℕ) (at_end end_too : Type 0) (rest tail other : List ℕ) → Good s → (at_end → size < budget) → (end_too → size < budget)
      → Unended at_end (size ≡ budget) s rest tail → Unended end_too (size ≡ budget) s rest other → tail ≡ other
  unended_once once s size at_end end_too rest tail other good small small_too (inl a) (inl b) = a.1 ∙ sym b.1
  unended_once once s size at_end end_too rest tail other good small small_too (inl a) (inr (inl b)) = a.1 ∙ sym b.1
  unended_once once s size at_end end_too rest tail other good small small_too (inl a) (inr (inr b)) = let none : length rest ≡ length {A = ℕ} [] = ap length a.0 in absurd (omega (arith, none, b.2))
  unended_once once s size at_end end_too rest tail other good small small_too (inr (inl a)) (inl b) = a.1 ∙ sym b.1
  unended_once once s size at_end end_too rest tail other good small small_too (inr (inl a)) (inr (inl b)) = a.1 ∙ sym b.1
  unended_once once s size at_end end_too rest tail other good small small_too (inr (inl a)) (inr (inr b)) = absurd (omega (arith, a.2, small_too b.4))
  unended_once once s size at_end end_too rest tail other good small small_too (inr (inr a)) (inl b) = let none : length rest ≡ length {A = ℕ} [] = ap length b.0 in absurd (omega (arith, none, a.2))
  unended_once once s size at_end end_too rest tail other good small small_too (inr (inr a)) (inr (inl b)) = absurd (omega (arith, b.2, small a.4))
  unended_once once s size at_end end_too rest tail other good small small_too (inr (inr a)) (inr (inr b)) = (once s a.0 b.0 rest tail other good a.3 b.3).0

  tail_once : Once → (status : Status) (at_end end_too : Type 0) (size number : ℕ) (s : X) (rest tail other : List ℕ) → Good s → status ≢ Memory → status ≢ WriteFault → (at_end → size < budget) → (end_too → size < budget)
      → Cause position step under status at_end (size ≡ budget) s number rest tail → Cause position step under status end_too (size ≡ budget) s number rest other → tail ≡ other
  tail_once once Done at_end end_too size number s rest tail other good ample taken small small_too a b = a.3 ∙ sym b.3
  tail_once once WrongWords at_end end_too size number s rest tail other good ample taken small small_too a b = absurd a
  tail_once once FaultLine at_end end_too size number s rest tail other good ample taken small small_too a b = a.1 ∙ sym b.1
  tail_once once ReadFault at_end end_too size number s rest tail other good ample taken small small_too a b = a.1 ∙ sym b.1
  tail_once once WriteFault at_end end_too size number s rest tail other good ample taken small small_too a b = absurd (taken refl)
  tail_once once Memory at_end end_too size number s rest tail other good ample taken small small_too a b = absurd (ample refl)
  tail_once once NoEnd at_end end_too size number s rest tail other good ample taken small small_too a b = unended_once once s size at_end end_too rest tail other good small small_too a b

  -- what both wrote behind the lines, once these and the state are known to be the same
  tail_by : Once → (status : Status) (at_end end_too : Type 0) (bytes more : List ℕ) (lines ms : List (List ℕ)) (s t : X) (rest y tail other : List ℕ) → Good s → status ≢ Memory → status ≢ WriteFault
      → (at_end → length bytes < budget) → (end_too → length more < budget)
      → bytes ≡ more → lines ≡ ms → s ≡ t → rest ≡ y
      → Cause position step under status at_end (length bytes ≡ budget) s (length lines + 1) rest tail → Cause position step under status end_too (length more ≡ budget) t (length ms + 1) y other → tail ≡ other
  tail_by once status at_end end_too bytes more lines ms s t rest y tail other good ample taken small small_too same lines_are state_is rest_is a b =
      let one : Cause position step under status end_too (length bytes ≡ budget) t (length ms + 1) y other = subst (λ (z : List ℕ). Cause position step under status end_too (length z ≡ budget) t (length ms + 1) y other) (sym same) b in
      let two : Cause position step under status end_too (length bytes ≡ budget) t (length lines + 1) y other = subst (λ (z : List (List ℕ)). Cause position step under status end_too (length bytes ≡ budget) t (length z + 1) y other) (sym lines_are) one in
      let three : Cause position step under status end_too (length bytes ≡ budget) s (length lines + 1) y other = subst (λ (z : X). Cause position step under status end_too (length bytes ≡ budget) z (length lines + 1) y other) (sym state_is) two in
      let four : Cause position step under status end_too (length bytes ≡ budget) s (length lines + 1) rest other = subst (λ (z : List ℕ). Cause position step under status end_too (length bytes ≡ budget) s (length lines + 1) z other) (sym rest_is) three in
      tail_once once status at_end end_too (length bytes) (length lines + 1) s rest tail other good ample taken small (λ e. subst (λ (z : List ℕ). length z < budget) (sym same) (small_too e)) a four

  -- two readings of one told source that end alike write the same
  pub ends_once : Follows position step → Once → Stays → (start : X) → Good start → (source also : SourceUse) (sink other : SinkUse) (status : Status)
      → IsTold source → also.left ≡ source.left → also.left_now ≡ source.left_now → other.written ≡ sink.written
      → status ≢ Memory → status ≢ WriteFault
      → Ended position step under start source sink status → Ended position step under start also other status → sink.written_now ≡ other.written_now
  ends_once follows once stays start good source also sink other status told left left_now held ample taken a b =
      let took : Takes source.left (joined b.lines ++ b.rest) source.left_now =
      subst (λ (x : Option (List ℕ)). Takes x (joined b.lines ++ b.rest) source.left_now) left (subst (λ (x : Option (List ℕ)). Takes also.left (joined b.lines ++ b.rest) x) left_now b.taken) in
      let bytes : joined a.lines ++ a.rest ≡ joined b.lines ++ b.rest = same_bytes source.left source.left_now told.0 (joined a.lines ++ a.rest) (joined b.lines ++ b.rest) told.1 a.taken took in
      let split = same_rest (position start) a.lines b.lines a.rest b.rest (position a.state) (position b.state) a.each b.each
      (run_position position step follows start a.lines a.written a.state a.runs) (run_position position step follows start b.lines b.written b.state b.runs)
      (shape_of status _ _ a.state (length a.lines + 1) a.rest a.tail ample taken a.cause) (shape_of status _ _ b.state (length b.lines + 1) b.rest b.tail ample taken b.cause) bytes in
      let runs : Runs step start a.lines b.written b.state = subst (λ (ls : List (List ℕ)). Runs step start ls b.written b.state) (sym split.0) b.runs in
      let wrote = runs_once once stays start a.lines a.written b.written a.state b.state good a.runs runs in
      let tails : a.tail ≡ b.tail = tail_by once status (IsAtEnd source.left_now × (length (joined a.lines ++ a.rest) < budget)) (IsAtEnd also.left_now × (length (joined b.lines ++ b.rest) < budget))
      (joined a.lines ++ a.rest) (joined b.lines ++ b.rest) a.lines b.lines a.state b.state a.rest b.rest a.tail b.tail (runs_good stays start a.lines a.written a.state good a.runs) ample taken
      (λ e. e.1) (λ e. e.1) bytes split.0 wrote.1 split.1 a.cause b.cause in
      let added : other.written_now ≡ option_map (λ (was : List ℕ). was ++ (b.written ++ b.tail)) sink.written = b.added ∙ ap (λ (o : Option (List ℕ)). option_map (λ (was : List ℕ). was ++ (b.written ++ b.tail)) o) held in
      a.added ∙ ap (λ (o : List ℕ). option_map (λ (was : List ℕ). was ++ (o ++ a.tail)) sink.written) wrote.0 ∙ ap (λ (o : List ℕ). option_map (λ (was : List ℕ). was ++ (b.written ++ o)) sink.written) tails ∙ sym added
