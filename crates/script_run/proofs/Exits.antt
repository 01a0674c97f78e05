-- How far a script has come, and each way to its end.
use Rattle.std.proofs.Common.{◌≡◌, ◌∙◌, ℕ, ◌+◌, ◌<◌, inl, inr, List, [], ◌∷◌, ◌++◌, length, length-append, refl, ap, sym, subst, arith, Option, Some}
use Rattle.std.specs.List.{AllByRecursion}
use Rattle.outside.specs.Streams.{Takes, Adds, IsAtEnd}
use Rattle.script_lines.specs.Positions.{Position}
use Rattle.script_lines.specs.Lines.{IsUnbroken, IsLine, joined}
use Rattle.script_lines.specs.Records.{fault_text}
use Rattle.script_run.specs.declared.status.Status.{Status}
use Rattle.script_run.specs.declared.status.Status.TheVariants.{Done, WrongWords, FaultLine, ReadFault, WriteFault, Memory, NoEnd}
use Rattle.script_run.specs.Play.{Makes, Answers, answer_of, Refuses}
use Rattle.script_run.specs.Uses.{SourceUse, SinkUse}
use Rattle.script_run.specs.Transcript.{budget, Runs, Spells, IsRefused, IsWithin, Writes, Cause, Ended}
use Rattle.script_run.proofs.Moves.{takes_more, adds_more, adds_nothing, adds_same, joined_more, each_more, runs_more}

-- these lines acted, and nothing was read or written beside them
pub record Reached {X : Type 0} (step : X → List ℕ → List ℕ → X → Type 0) (first : X) (source_then source_now sink_then sink_now : Option (List ℕ)) (state : X) (number room : ℕ) : Type 0 where
  pub lines : List (List ℕ)
  pub written : List ℕ
  pub taken : Takes source_then (joined lines) source_now
  pub added : Adds sink_then written sink_now
  pub each : AllByRecursion IsLine lines
  pub runs : Runs step first lines written state
  pub count : length lines ≡ number
  pub used : room + length (joined lines) ≡ 1073741824

pub begun : {X : Type 0} (step : X → List ℕ → List ℕ → X → Type 0) (first : X) (source sink : Option (List ℕ)) → Takes source [] source → Reached step first source source sink sink first 0 1073741824
begun step first source sink nothing = record {
  lines = [];
  written = [];
  taken = nothing;
  added = adds_nothing sink;
  each = tt;
  runs = (refl, refl);
  count = refl;
  used = refl;
}

-- what one reading took: the bytes, and the room that is left
abbrev pub ReadBy : Option (List ℕ) → Option (List ℕ) → ℕ → ℕ → (List ℕ → Type 0) → Type 0
ReadBy mid now room room_now P = (read : List ℕ) × Takes mid read now × (room_now + length read ≡ room) × P read

-- one more line acted
pub further : {X : Type 0} (step : X → List ℕ → List ℕ → X → Type 0) (first : X) (source_then mid now sink_then sink_mid sink_now : Option (List ℕ)) (s t : X) (number room room_now : ℕ) (line : List ℕ)
    → Reached step first source_then mid sink_then sink_mid s number room
    → ReadBy mid now room room_now (λ read. IsLine line × (read ≡ line ++ 10 ∷ []))
    → ((out : List ℕ) × step s line out t × Adds sink_mid out sink_now)
    → Reached step first source_then now sink_then sink_now t (number + 1) room_now
further step first source_then mid now sink_then sink_mid sink_now s t number room room_now line r d a =
    let is : d.0 ≡ line ++ 10 ∷ [] = d.3.1 in
    let all : Takes source_then (joined r.lines ++ (line ++ 10 ∷ [])) now = rw is at (takes_more source_then mid now (joined r.lines) d.0 r.taken d.1) in
    let size : length (joined r.lines ++ d.0) ≡ length (joined r.lines) + length d.0 = length-append (joined r.lines) d.0 in
    let same : length (joined (r.lines ++ line ∷ [])) ≡ length (joined r.lines ++ d.0) = ap length (joined_more r.lines line ∙ ap (λ (x : List ℕ). joined r.lines ++ x) (sym is)) in
    record {
      lines = r.lines ++ line ∷ [];
      written = r.written ++ a.0;
      taken = rw joined_more all;
      added = adds_more sink_then sink_mid sink_now r.written a.0 r.added a.2;
      each = each_more r.lines line r.each d.3.0;
      runs = runs_more step first r.lines r.written s line a.0 t r.runs a.1;
      count = length-append r.lines (line ∷ []) ∙ ap (λ (n : ℕ). n + 1) r.count;
      used = omega (arith, r.used, d.2, size, same);
    }

-- a line that was begun
line_within : (read : List ℕ) → IsLine read → IsWithin read
line_within read one = inl (one.unbroken, omega (arith, one.short))

-- a line that was read, up to its newline or the end
spelled_within : (at_end : Type 0) (line read : List ℕ) → Spells at_end line read → IsWithin read
spelled_within at_end line read spells =
    elim spells.1 [
      | inl whole ↦ inr (line, spells.0, whole)
      | inr last ↦ line_within read (subst (λ (x : List ℕ). IsLine x) (sym last.0) spells.0)
    ]

-- a line that is refused
refused_within : (at_end : Type 0) (position : Position) (read : List ℕ) → IsRefused at_end position read → IsWithin read
refused_within at_end position read refused =
    elim refused [
      | inl line ↦ spelled_within at_end line.0 read line.1
      | inr long ↦ inl (long.0, omega (arith, long.1))
    ]

-- an end behind these lines, with what was read and written behind them
pub ends_at : {X : Type 0} (position : X → Position) (step : X → List ℕ → List ℕ → X → Type 0) (under : X → List ℕ → List ℕ → Type 0) (first : X) (source : SourceUse) (mid : Option (List ℕ)) (sink : SinkUse) (sink_mid : Option (List ℕ)) (state : X) (number room : ℕ) (status : Status) (read tail : List ℕ)
    → (r : Reached step first source.left mid sink.written sink_mid state number room) → Takes mid read source.left_now → Adds sink_mid tail sink.written_now
    → Cause position step under status (IsAtEnd source.left_now × (length (joined r.lines ++ read) < budget)) (length (joined r.lines ++ read) ≡ budget) state (length r.lines + 1) read tail
    → Ended position step under first source sink status
ends_at position step under first source mid sink sink_mid state number room status read tail r took added cause = record {
  lines = r.lines;
  rest = read;
  written = r.written;
  tail = tail;
  state = state;
  taken = takes_more source.left mid source.left_now (joined r.lines) read r.taken took;
  added = adds_more sink.written sink_mid sink.written_now r.written tail r.added added;
  each = r.each;
  runs = r.runs;
  cause = cause;
}

-- the bytes read so far, and the room that is left, are the budget
whole_size : (lines : List (List ℕ)) (read : List ℕ) (room room_now : ℕ) → room + length (joined lines) ≡ 1073741824 → room_now + length read ≡ room → room_now + length (joined lines ++ read) ≡ 1073741824
whole_size lines read room room_now used took = omega (arith, used, took, length-append (joined lines) read)

within : (lines : List (List ℕ)) (read : List ℕ) (room room_now : ℕ) → room + length (joined lines) ≡ 1073741824 → room_now + length read ≡ room → 0 < room_now → length (joined lines ++ read) < 1073741824
within lines read room room_now used took left = omega (arith, whole_size lines read room room_now used took)

full : (lines : List (List ℕ)) (read : List ℕ) (room room_now : ℕ) → room + length (joined lines) ≡ 1073741824 → room_now + length read ≡ room → room_now ≡ 0 → length (joined lines ++ read) ≡ 1073741824
full lines read room room_now used took none = omega (arith, whole_size lines read room room_now used took)

pub source_failed : {X : Type 0} (position : X → Position) (step : X → List ℕ → List ℕ → X → Type 0) (under : X → List ℕ → List ℕ → Type 0) (first : X) (source : SourceUse) (mid : Option (List ℕ)) (sink : SinkUse) (state : X) (number room room_now : ℕ)
    → Reached step first source.left mid sink.written sink.written_now state number room → ReadBy mid source.left_now room room_now IsLine
    → Ended position step under first source sink ReadFault
source_failed position step under first source mid sink state number room room_now r d =
    ends_at position step under first source mid sink sink.written_now state number room ReadFault d.0 [] r d.1 (adds_nothing sink.written_now) (d.3, refl)

pub no_memory : {X : Type 0} (position : X → Position) (step : X → List ℕ → List ℕ → X → Type 0) (under : X → List ℕ → List ℕ → Type 0) (first : X) (source : SourceUse) (mid : Option (List ℕ)) (sink : SinkUse) (state : X) (number room room_now : ℕ)
    → Reached step first source.left mid sink.written sink.written_now state number room → ReadBy mid source.left_now room room_now IsLine
    → Ended position step under first source sink Memory
no_memory position step under first source mid sink state number room room_now r d =
    ends_at position step under first source mid sink sink.written_now state number room Memory d.0 [] r d.1 (adds_nothing sink.written_now) (inl (line_within d.0 d.3, refl))

pub budget_spent : {X : Type 0} (position : X → Position) (step : X → List ℕ → List ℕ → X → Type 0) (under : X → List ℕ → List ℕ → Type 0) (first : X) (source : SourceUse) (mid : Option (List ℕ)) (sink : SinkUse) (state : X) (number room room_now : ℕ)
    → Reached step first source.left mid sink.written sink.written_now state number room → ReadBy mid source.left_now room room_now IsLine → room_now ≡ 0
    → Ended position step under first source sink NoEnd
budget_spent position step under first source mid sink state number room room_now r d none =
    ends_at position step under first source mid sink sink.written_now state number room NoEnd d.0 [] r d.1 (adds_nothing sink.written_now)
    (inr (inl (d.3, refl, full r.lines d.0 room room_now r.used d.2 none)))

pub budget_even : {X : Type 0} (position : X → Position) (step : X → List ℕ → List ℕ → X → Type 0) (under : X → List ℕ → List ℕ → Type 0) (first : X) (source : SourceUse) (sink : SinkUse) (state : X) (number room : ℕ)
    → Reached step first source.left source.left_now sink.written sink.written_now state number room → Takes source.left_now [] source.left_now → room ≡ 0
    → Ended position step under first source sink NoEnd
budget_even position step under first source sink state number room r nothing none =
    ends_at position step under first source source.left_now sink sink.written_now state number room NoEnd [] [] r nothing (adds_nothing sink.written_now)
    (inr (inl (record { unbroken = tt; short = omega arith }, refl, full r.lines [] room room r.used (omega arith) none)))

pub source_ended : {X : Type 0} (position : X → Position) (step : X → List ℕ → List ℕ → X → Type 0) (under : X → List ℕ → List ℕ → Type 0) (first : X) (source : SourceUse) (mid : Option (List ℕ)) (sink : SinkUse) (state : X) (number room room_now : ℕ)
    → Reached step first source.left mid sink.written sink.written_now state number room → ReadBy mid source.left_now room room_now (λ read. read ≡ []) → IsAtEnd source.left_now × (0 < room_now)
    → Ended position step under first source sink NoEnd
source_ended position step under first source mid sink state number room room_now r d at =
    ends_at position step under first source mid sink sink.written_now state number room NoEnd d.0 [] r d.1 (adds_nothing sink.written_now)
    (inl (d.3, refl, (at.0, within r.lines d.0 room room_now r.used d.2 at.1)))

-- what stopped the text of a refusal, as what stopped the work at these bytes
refusal_cut : {X : Type 0} (position : X → Position) (under : X → List ℕ → List ℕ → Type 0) (at_end : Type 0) (s : X) (number count : ℕ) (rest : List ℕ) (out : List ℕ) → count ≡ number → IsRefused at_end (position s) rest → out ≡ fault_text (number + 1) → Writes position under at_end s (count + 1) rest out
refusal_cut position under at_end s number count rest out same refused is = inr (refused, is ∙ ap (λ (n : ℕ). fault_text (n + 1)) (sym same))

-- a refusal behind these lines, by what the attempt to write its text was answered
pub refused_at : {X : Type 0} (position : X → Position) (step : X → List ℕ → List ℕ → X → Type 0) (under : X → List ℕ → List ℕ → Type 0) (first : X) (source : SourceUse) (mid : Option (List ℕ)) (sink : SinkUse) (sink_mid : Option (List ℕ)) (state : X) (number room : ℕ) (status : Status) (read : List ℕ)
    → (r : Reached step first source.left mid sink.written sink_mid state number room) → Takes mid read source.left_now
    → IsRefused (IsAtEnd source.left_now × (length (joined r.lines ++ read) < budget)) (position state) read → Refuses status (number + 1) sink_mid sink.written_now
    → Ended position step under first source sink status
refused_at position step under first source mid sink sink_mid state number room Done read r took refused told = absurd told
refused_at position step under first source mid sink sink_mid state number room WrongWords read r took refused told = absurd told
refused_at position step under first source mid sink sink_mid state number room FaultLine read r took refused told =
    ends_at position step under first source mid sink sink_mid state number room FaultLine read (fault_text (number + 1)) r took told
    (refused, ap (λ (n : ℕ). fault_text (n + 1)) (sym r.count))
refused_at position step under first source mid sink sink_mid state number room ReadFault read r took refused told = absurd told
refused_at position step under first source mid sink sink_mid state number room WriteFault read r took refused told =
    ends_at position step under first source mid sink sink_mid state number room WriteFault read told.part r took told.added
    (told.made, told.cut, refusal_cut position under _ state number (length r.lines) read told.made r.count refused told.is_made)
refused_at position step under first source mid sink sink_mid state number room Memory read r took refused told =
    ends_at position step under first source mid sink sink_mid state number room Memory read [] r took (adds_same sink_mid sink.written_now told) (inl (refused_within _ (position state) read refused, refl))
refused_at position step under first source mid sink sink_mid state number room NoEnd read r took refused told = absurd told

pub too_long : {X : Type 0} (position : X → Position) (step : X → List ℕ → List ℕ → X → Type 0) (under : X → List ℕ → List ℕ → Type 0) (first : X) (source : SourceUse) (mid : Option (List ℕ)) (sink : SinkUse) (sink_mid : Option (List ℕ)) (state : X) (number room room_now : ℕ) (status : Status)
    → Reached step first source.left mid sink.written sink_mid state number room → ReadBy mid source.left_now room room_now (λ read. IsUnbroken read × (length read ≡ 70001)) → Refuses status (number + 1) sink_mid sink.written_now
    → Ended position step under first source sink status
too_long position step under first source mid sink sink_mid state number room room_now status r d told =
    refused_at position step under first source mid sink sink_mid state number room status d.0 r d.1 (inr d.3) told

-- what was made at a line, as what was made at its bytes
made_at : {X : Type 0} (position : X → Position) (under : X → List ℕ → List ℕ → Type 0) (at_end : Type 0) (s : X) (number count : ℕ) (line rest out : List ℕ) → count ≡ number → Spells at_end line rest → Makes position under s line (number + 1) out → Writes position under at_end s (count + 1) rest out
made_at position under at_end s number count line rest out same spells made =
    elim made [
      | inl begun ↦ inl (line, spells, begun)
      | inr refused ↦ refusal_cut position under at_end s number count rest out same (inl (line, spells, refused.0)) refused.1
    ]

-- a line that decides a status
pub answered : {X : Type 0} (position : X → Position) (step : X → List ℕ → List ℕ → X → Type 0) (under : X → List ℕ → List ℕ → Type 0) (first : X) (source : SourceUse) (mid : Option (List ℕ)) (sink : SinkUse) (sink_mid : Option (List ℕ)) (s t : X) (number room : ℕ) (status : Status) (line read : List ℕ)
    → (r : Reached step first source.left mid sink.written sink_mid s number room) → Takes mid read source.left_now
    → Spells (IsAtEnd source.left_now × (length (joined r.lines ++ read) < budget)) line read → Answers position step under (Some status) s line (number + 1) t sink_mid sink.written_now
    → Ended position step under first source sink status
answered position step under first source mid sink sink_mid s t number room Done line read r took spells told =
    ends_at position step under first source mid sink sink_mid s number room Done read [] r took (adds_same sink_mid sink.written_now told.1) (line, spells, told.0, refl)
answered position step under first source mid sink sink_mid s t number room WrongWords line read r took spells told = absurd told
answered position step under first source mid sink sink_mid s t number room FaultLine line read r took spells told =
    refused_at position step under first source mid sink sink_mid s number room FaultLine read r took (inl (line, spells, told.0)) told.1
answered position step under first source mid sink sink_mid s t number room ReadFault line read r took spells told = absurd told
answered position step under first source mid sink sink_mid s t number room WriteFault line read r took spells told =
    ends_at position step under first source mid sink sink_mid s number room WriteFault read told.part r took told.added
    (told.made, told.cut, made_at position under _ s number (length r.lines) line read told.made r.count spells told.is_made)
answered position step under first source mid sink sink_mid s t number room Memory line read r took spells told =
    elim told [
      | inl same ↦ ends_at position step under first source mid sink sink_mid s number room Memory read [] r took (adds_same sink_mid sink.written_now same) (inl (spelled_within _ line read spells, refl))
      | inr stopped ↦ ends_at position step under first source mid sink sink_mid s number room Memory read stopped.part r took stopped.added
          (inr (stopped.made, stopped.cut, made_at position under _ s number (length r.lines) line read stopped.made r.count spells stopped.is_made))
    ]
answered position step under first source mid sink sink_mid s t number room NoEnd line read r took spells told = absurd told

pub whole_answered : {X : Type 0} (position : X → Position) (step : X → List ℕ → List ℕ → X → Type 0) (under : X → List ℕ → List ℕ → Type 0) (first : X) (source : SourceUse) (mid : Option (List ℕ)) (sink : SinkUse) (sink_mid : Option (List ℕ)) (s t : X) (number room room_now : ℕ) (status : Status) (line : List ℕ)
    → Reached step first source.left mid sink.written sink_mid s number room → ReadBy mid source.left_now room room_now (λ read. IsLine line × (read ≡ line ++ 10 ∷ []))
    → Answers position step under (Some status) s line (number + 1) t sink_mid sink.written_now
    → Ended position step under first source sink status
whole_answered position step under first source mid sink sink_mid s t number room room_now status line r d told =
    answered position step under first source mid sink sink_mid s t number room status line d.0 r d.1 (d.3.0, inl d.3.1) told

-- the last line acted: no end came
acted_last : {X : Type 0} (position : X → Position) (step : X → List ℕ → List ℕ → X → Type 0) (under : X → List ℕ → List ℕ → Type 0) (first : X) (source : SourceUse) (mid : Option (List ℕ)) (sink : SinkUse) (sink_mid : Option (List ℕ)) (s t : X) (number room : ℕ) (line read : List ℕ)
    → (r : Reached step first source.left mid sink.written sink_mid s number room) → Takes mid read source.left_now → IsLine line → read ≡ line → 0 < length line
    → (IsAtEnd source.left_now × (length (joined r.lines ++ read) < budget)) → ((out : List ℕ) × step s line out t × Adds sink_mid out sink.written_now)
    → Ended position step under first source sink NoEnd
acted_last position step under first source mid sink sink_mid s t number room line read r took one is some at told =
    ends_at position step under first source mid sink sink_mid s number room NoEnd read told.0 r took told.2
    (inr (inr (t, subst (λ x. IsLine x) (sym is) one, subst (λ x. 0 < length x) (sym is) some, subst (λ x. step s x told.0 t) (sym is) told.1, at)))

pub last_answered : {X : Type 0} (position : X → Position) (step : X → List ℕ → List ℕ → X → Type 0) (under : X → List ℕ → List ℕ → Type 0) (first : X) (source : SourceUse) (mid : Option (List ℕ)) (sink : SinkUse) (sink_mid : Option (List ℕ)) (s t : X) (number room room_now : ℕ) (status : Status) (line : List ℕ)
    → Reached step first source.left mid sink.written sink_mid s number room → ReadBy mid source.left_now room room_now (λ read. IsLine line × (read ≡ line) × (0 < length line))
    → IsAtEnd source.left_now × (0 < room_now) → Answers position step under (answer_of status) s line (number + 1) t sink_mid sink.written_now
    → Ended position step under first source sink status
last_answered position step under first source mid sink sink_mid s t number room room_now Done line r d at told =
    answered position step under first source mid sink sink_mid s t number room Done line d.0 r d.1 (d.3.0, inr (d.3.1, d.3.2, (at.0, within r.lines d.0 room room_now r.used d.2 at.1))) told
last_answered position step under first source mid sink sink_mid s t number room room_now WrongWords line r d at told = absurd told
last_answered position step under first source mid sink sink_mid s t number room room_now FaultLine line r d at told =
    answered position step under first source mid sink sink_mid s t number room FaultLine line d.0 r d.1 (d.3.0, inr (d.3.1, d.3.2, (at.0, within r.lines d.0 room room_now r.used d.2 at.1))) told
last_answered position step under first source mid sink sink_mid s t number room room_now ReadFault line r d at told = absurd told
last_answered position step under first source mid sink sink_mid s t number room room_now WriteFault line r d at told =
    answered position step under first source mid sink sink_mid s t number room WriteFault line d.0 r d.1 (d.3.0, inr (d.3.1, d.3.2, (at.0, within r.lines d.0 room room_now r.used d.2 at.1))) told
last_answered position step under first source mid sink sink_mid s t number room room_now Memory line r d at told =
    answered position step under first source mid sink sink_mid s t number room Memory line d.0 r d.1 (d.3.0, inr (d.3.1, d.3.2, (at.0, within r.lines d.0 room room_now r.used d.2 at.1))) told
last_answered position step under first source mid sink sink_mid s t number room room_now NoEnd line r d at told =
    acted_last position step under first source mid sink sink_mid s t number room line d.0 r d.1 d.3.0 d.3.1 d.3.2 (at.0, within r.lines d.0 room room_now r.used d.2 at.1) told

-- the same, with the line as the player was shown it
pub last_shown : {X : Type 0} (position : X → Position) (step : X → List ℕ → List ℕ → X → Type 0) (under : X → List ℕ → List ℕ → Type 0) (first : X) (source : SourceUse) (mid : Option (List ℕ)) (sink : SinkUse) (sink_mid : Option (List ℕ)) (s t : X) (number room room_now : ℕ) (status : Status) (line shown : List ℕ)
    → shown ≡ line → Reached step first source.left mid sink.written sink_mid s number room → ReadBy mid source.left_now room room_now (λ read. IsLine line × (read ≡ line) × (0 < length line))
    → IsAtEnd source.left_now × (0 < room_now) → Answers position step under (answer_of status) s shown (number + 1) t sink_mid sink.written_now
    → Ended position step under first source sink status
last_shown position step under first source mid sink sink_mid s t number room room_now status line shown same r d at told =
    last_answered position step under first source mid sink sink_mid s t number room room_now status line r d at
    (subst (λ (x : List ℕ). Answers position step under (answer_of status) s x (number + 1) t sink_mid sink.written_now) same told)

pub whole_shown : {X : Type 0} (position : X → Position) (step : X → List ℕ → List ℕ → X → Type 0) (under : X → List ℕ → List ℕ → Type 0) (first : X) (source : SourceUse) (mid : Option (List ℕ)) (sink : SinkUse) (sink_mid : Option (List ℕ)) (s t : X) (number room room_now : ℕ) (status : Status) (line shown : List ℕ)
    → shown ≡ line → Reached step first source.left mid sink.written sink_mid s number room → ReadBy mid source.left_now room room_now (λ read. IsLine line × (read ≡ line ++ 10 ∷ []))
    → Answers position step under (Some status) s shown (number + 1) t sink_mid sink.written_now
    → Ended position step under first source sink status
whole_shown position step under first source mid sink sink_mid s t number room room_now status line shown same r d told =
    whole_answered position step under first source mid sink sink_mid s t number room room_now status line r d
    (subst (λ (x : List ℕ). Answers position step under (Some status) s x (number + 1) t sink_mid sink.written_now) same told)

pub further_shown : {X : Type 0} (step : X → List ℕ → List ℕ → X → Type 0) (first : X) (source_then mid now sink_then sink_mid sink_now : Option (List ℕ)) (s t : X) (number room room_now : ℕ) (line shown : List ℕ)
    → shown ≡ line → Reached step first source_then mid sink_then sink_mid s number room
    → ReadBy mid now room room_now (λ read. IsLine line × (read ≡ line ++ 10 ∷ []))
    → ((out : List ℕ) × step s shown out t × Adds sink_mid out sink_now)
    → Reached step first source_then now sink_then sink_now t (number + 1) room_now
further_shown step first source_then mid now sink_then sink_mid sink_now s t number room room_now line shown same r d told =
    further step first source_then mid now sink_then sink_mid sink_now s t number room room_now line r d (told.0, subst (λ (x : List ℕ). step s x told.0 t) same told.1, told.2)
