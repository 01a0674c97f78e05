-- What acknowledging changes.
use Rattle.std.proofs.Common.{◌≡◌, ◌≢◌, ℕ, ◌+◌, ◌-◌, ◌*◌, ◌^◌, ◌<◌, ◌≤◌, Bool, true, false, not, ◌&&◌, cond, nat_eq, List, [], ◌∷◌, length, filter, append-nil, Some, Ok, refl, ap, sym, subst, ◌∙◌, arith, inl, inr}
use Rattle.std.proofs.lemmas.List.{length-map}
use Rattle.std.specs.Prelude.{◌⊎◌}
use Rattle.std.specs.List.{list_any, sum_by, AllByRecursion}
use Rattle.std.proofs.lemmas.Bool.{and_parts, lt-ltb, ltb-true}
use Rattle.std.proofs.lemmas.List.Sums.{sum_by-cons}
use Rattle.cool_message.specs.Reading.{reading}
use Rattle.cool_message.specs.Writing.{written}
use Rattle.cool_message.specs.declared.message.ClientMessage.TheVariants.{TileProcessed}
use Rattle.kit_trait.specs.Rules.{Rules}
use Rattle.document_machine.proofs.Lists.{all_gone}
use Rattle.send_window.proofs.Closing.{filter_le}
use Rattle.tile_key.specs.Places.{Place}
use Rattle.document_machine.specs.Due.{has_room, is_due, is_wanted, keys}
use Rattle.document_machine.specs.Kept.{IsKept, IsViewKept}
use Rattle.document_machine.specs.Message.{acknowledged, becomes, effect, heard, limits_of, reading_effect, reply}
use Rattle.document_machine.specs.Outputs.{nothing}
use Rattle.document_machine.specs.Rank.{above_jobs, due_pairs, jobs_to_come, jobs_wanted, left_to_do, old_jobs, pairs, pairs_with_room, saves_to_come, tiles_to_come, unacknowledged}
use Rattle.document_machine.specs.State.{View, Job, Document, find_view, with_view}
use Rattle.send_window.specs.Tiles.{Sent}
use Rattle.send_window.specs.declared.windows.TheConstants.{MOST_SENT}
use Rattle.document_machine.specs.Step.{Says}
use Rattle.document_machine.specs.declared.limits.TheConstants.{MOST_JOBS}
use Rattle.document_machine.specs.declared.outs.Outs.{Outs}
use Rattle.message_laws.proofs.BoundLemmas.{text_again}
use Rattle.message_laws.specs.Bounds.{IsListLength}
use Rattle.document_laws.specs.AtOnce.{acknowledges, numbers, IsAcknowledged}
use Rattle.document_laws.proofs.Fewer.{due_of}
use Rattle.document_laws.proofs.Lower.{parts_fall, plus_none, room_le, same_le}
use Rattle.document_laws.proofs.Rank.{any_with}
use Rattle.document_laws.proofs.Sums.{any_le, count_jobs_le, sum_same, sum_with, whole_falls}
use Rattle.document_laws.proofs.Views.{changed_same, found_other, found_view, found_with}

-- a view whose numbers are all acknowledged
pub all_acknowledged : (view : View)
    → acknowledged (numbers view) view ≡ record view { window = [] }
all_acknowledged view = ap (λ window. record view { window = window }) (all_gone [] view.window)

-- a window with a tile in it has a length
some_tile : (window : List Sent) → window ≢ [] → 1 ≤ length window
some_tile [] some = absurd (some refl)
some_tile (tile ∷ tiles) some = omega arith

-- a list of at least one and at most 64 is one of a message
list_length : (n : ℕ) → 1 ≤ n → n ≤ 64 → IsListLength n
list_length n low high = (low, omega arith)

-- a filter keeps all, or fewer
kept_or_fewer : {X : Type 0} (f : X → Bool) (xs : List X)
    → (filter f xs ≡ xs) ⊎ (length (filter f xs) + 1 ≤ length xs)
kept_or_fewer f [] = inl refl
kept_or_fewer f (x ∷ xs) =
    let rest = kept_or_fewer f xs in
    let most = filter_le f xs in
    elim (f x) as
    (λ b. (cond b (x ∷ filter f xs) (filter f xs) ≡ x ∷ xs)
    ⊎ (length (cond b (x ∷ filter f xs) (filter f xs)) + 1 ≤ length (x ∷ xs))) [
      | true ↦ elim rest [
        | inl same ↦ inl (ap (λ ys. x ∷ ys) same)
        | inr fewer ↦ inr (omega (arith, fewer))
      ]
      | false ↦ inr (omega (arith, most))
    ]

-- so what is acknowledged changes nothing, or fewer tiles are left
same_or_fewer : (wids : List ℕ) (views : List View) (id : ℕ)
    → (with_view views id (acknowledged wids) ≡ views)
    ⊎ (sum_by (λ view. length view.window) (with_view views id (acknowledged wids)) + 1
    ≤ sum_by (λ view. length view.window) views)
same_or_fewer wids [] id = inl refl
same_or_fewer wids (v ∷ vs) id =
    let rest = same_or_fewer wids vs id in
    let before = sum_by-cons (λ view. length view.window) v vs in
    let here = sum_by-cons (λ view. length view.window) (acknowledged wids v) vs in
    let later = sum_by-cons (λ view. length view.window) v (with_view vs id (acknowledged wids)) in
    elim (nat_eq v.id id) as
    (λ b. (cond b (acknowledged wids v ∷ vs) (v ∷ with_view vs id (acknowledged wids)) ≡ v ∷ vs)
    ⊎ (sum_by (λ view. length view.window)
    (cond b (acknowledged wids v ∷ vs) (v ∷ with_view vs id (acknowledged wids))) + 1
    ≤ sum_by (λ view. length view.window) (v ∷ vs))) [
      | true ↦ elim
          (kept_or_fewer
          (λ (tile : Sent). not (list_any (λ wid. nat_eq wid tile.wid) wids)) v.window) [
            | inl same ↦ inl (ap (λ window. record v { window = window } ∷ vs) same)
            | inr fewer ↦ inr (omega (arith, before, here, fewer))
          ]
      | false ↦ elim rest [
        | inl same ↦ inl (ap (λ ys. v ∷ ys) same)
        | inr fewer ↦ inr (omega (arith, before, later, fewer))
      ]
    ]

-- what jobs have to come to rises by no more than the pairs whose views get room
room_bound : (pairs most before after count wanted more : ℕ) → after ≤ pairs → wanted ≤ more
    → 3 * after + count - 2 * more + 1 ≤ 3 * before + count - 2 * wanted + (3 * pairs + most + 1)
room_bound pairs most before after count wanted more le rises = omega arith

both_true : (a b : Bool) → a ≡ true → b ≡ true → (a && b) ≡ true
both_true a b e f = rw (e, f) refl

-- a view that has room has it once it acknowledged
room_stays : (wids : List ℕ) (view : View) → has_room view ≡ true
    → has_room (acknowledged wids view) ≡ true
room_stays wids view room =
    let fewer : length (acknowledged wids view).window ≤ length view.window =
    filter_le (λ tile. not (list_any (λ wid. nat_eq wid tile.wid) wids)) view.window in
    let below : length view.window < MOST_SENT = ltb-true (length view.window) MOST_SENT room in
    lt-ltb (length (acknowledged wids view).window) MOST_SENT (omega (arith, fewer, below))

module _ {C B S : Type 0} (rules : Rules C B) (d : Document S) (id : ℕ) (wids : List ℕ) where
  abbrev after : Document S
  after = acknowledges d id wids

  -- acknowledging leaves the keys that views have and are due
  pub same_pairs : pairs rules after ≡ pairs rules d
  same_pairs =
      sum_same (λ view. length (keys rules d view)) d.views id (acknowledged wids) (λ v. refl)

  pub same_due : due_pairs rules after ≡ due_pairs rules d
  same_due = sum_same (due_of rules d) d.views id (acknowledged wids) (λ v. refl)

  -- and the jobs that were wanted
  wanted_stay : jobs_wanted rules d ≤ jobs_wanted rules after
  wanted_stay =
      count_jobs_le (λ (job : Job S). list_any (is_wanted rules d) job.keys)
      (λ (job : Job S). list_any (is_wanted rules after) job.keys) d.jobs
      (λ job e. any_le (is_wanted rules d) (is_wanted rules after) job.keys
      (λ key some. any_with (λ view. has_room view && is_due rules d view key) d.views id
      (acknowledged wids)
      (λ view is. let parts = and_parts (has_room view) (is_due rules d view key) is in
      both_true (has_room (acknowledged wids view)) (is_due rules d view key)
      (room_stays wids view parts.0) parts.1) some) e)

  -- so where fewer tiles are left to acknowledge, less is left to do
  fewer_left : unacknowledged after + 1 ≤ unacknowledged d
      → left_to_do rules after < left_to_do rules d
  fewer_left fewer =
      let e : Document S = after in
      let same = same_pairs in
      let due = same_due in
      let roomy : pairs_with_room rules e ≤ pairs rules d = let most = room_le rules e in
      omega (arith, most, same) in
      let jobs : jobs_to_come rules e + 1 ≤ jobs_to_come rules d + above_jobs rules d =
      room_bound (pairs rules d) MOST_JOBS (pairs_with_room rules d) (pairs_with_room rules e)
      (length d.jobs) (jobs_wanted rules d) (jobs_wanted rules e) roomy wanted_stay in
      let rest : 2 * due_pairs rules e + unacknowledged e + 1
      ≤ 2 * due_pairs rules d + unacknowledged d + 0 * (pairs rules d + 1) =
      omega (arith, due, fewer) in
      let tiles =
      parts_fall rules d e 0
      (plus_none ((MOST_JOBS + 2) * (length d.journal - d.applied) + old_jobs d))
      (omega (arith, same)) rest in
      let above : above_jobs rules e ≤ above_jobs rules d = omega (arith, same) in
      whole_falls (tiles_to_come rules d) (tiles_to_come rules e) (above_jobs rules d)
      (above_jobs rules e) (jobs_to_come rules d) (jobs_to_come rules e) (saves_to_come d)
      (saves_to_come e) tiles above jobs (same_le (saves_to_come d))

  -- whatever is acknowledged, no more is left to do
  pub acknowledging_adds_nothing : left_to_do rules after ≤ left_to_do rules d
  acknowledging_adds_nothing =
      elim (same_or_fewer wids d.views id) [
        | inl same ↦ let is : left_to_do rules after ≡ left_to_do rules d =
            ap (λ views. left_to_do rules (record d { views = views })) same in omega (arith, is)
        | inr fewer ↦ let less = fewer_left fewer in omega (arith, less)
      ]

module _ {C B S : Type 0} (rules : Rules C B) (d : Document S) where
  pub acknowledged_lowers : (id : ℕ) (view : View) → find_view d.views id ≡ Some view
      → view.window ≢ []
      → (find_view (acknowledges d id (numbers view)).views id ≡ Some (record view { window = [] }))
      × (left_to_do rules (acknowledges d id (numbers view)) < left_to_do rules d)
  acknowledged_lowers id view live some =
      let there : 1 ≤ length view.window = some_tile view.window some in
      let empty : acknowledged (numbers view) view ≡ record view { window = [] } =
      all_acknowledged view in
      let gone : length (acknowledged (numbers view) view).window ≡ 0 =
      ap (λ v. length v.window) empty in
      let sum = sum_with (λ v. length v.window) d.views id
      (acknowledged (numbers view)) view live in (
        found_with d.views id (acknowledged (numbers view)) view (λ v. refl) live
            ∙ ap Some empty,
        fewer_left rules d id (numbers view) (omega (arith, there, gone, sum)),
      )

  pub others_stay : (id other : ℕ) (wids : List ℕ) → other ≢ id
      → find_view (acknowledges d id wids).views other ≡ find_view d.views other
  others_stay id other wids apart =
      found_other d.views id other (acknowledged wids) (λ v. refl) apart

  effect_is : (view : View) (wids text : List ℕ) → reading text ≡ Ok (TileProcessed wids)
      → effect rules d view text ≡ becomes (acknowledged wids view)
  effect_is view wids text read = ap (reading_effect (limits_of rules d) view text) read

  -- the document after it
  acknowledged_is : (id : ℕ) (view : View) (wids : List ℕ) → find_view d.views id ≡ Some view
      → heard d id (becomes (acknowledged wids view)) ≡ acknowledges d id wids
  acknowledged_is id view wids live =
      ap (λ journal. record d
      { journal = journal; views = with_view d.views id (λ _. acknowledged wids view) })
      (append-nil d.journal)
      ∙ ap (λ views. record d { views = views })
      (changed_same d.views id (λ _. acknowledged wids view) (acknowledged wids) view live refl)

  -- the text of such a message
  pub said_acknowledges : (id : ℕ) (wids text : List ℕ) (outs : Outs S) (new : Document S)
      → reading text ≡ Ok (TileProcessed wids) → Says rules d id text outs new
      → (outs ≡ nothing) × (new ≡ acknowledges d id wids)
  said_acknowledges id wids text outs new read says =
      let e = effect_is says.view wids text read in (
        says.outs_are ∙ ap (reply id) e,
        says.new_is ∙ ap (heard d id) e
            ∙ acknowledged_is id says.view wids says.live,
      )

  pub said_lowers : (id : ℕ) (view : View) (text : List ℕ) (outs : Outs S) (new : Document S)
      → find_view d.views id ≡ Some view → view.window ≢ []
      → reading text ≡ Ok (TileProcessed (numbers view)) → Says rules d id text outs new
      → IsAcknowledged rules d id view outs new
  said_lowers id view text outs new live some read says =
      let is = said_acknowledges id (numbers view) text outs new read says in
      let low = acknowledged_lowers id view live some in
      record {
        outs_are = is.0;
        new_is = is.1;
        empty = subst
            (λ (e : Document S). find_view e.views id ≡ Some (record view { window = [] }))
            (sym is.1) low.0;
        others = λ other apart. subst
            (λ (e : Document S). find_view e.views other ≡ find_view d.views other) (sym is.1)
            (others_stay id other (numbers view) apart);
        jobs = ap (λ e. e.jobs) is.1;
        less = subst (λ (e : Document S). left_to_do rules e < left_to_do rules d) (sym is.1) low.1;
      }

  -- what is written of a window's numbers is read as them
  pub written_read : (view : View) → view.window ≢ [] → length view.window ≤ 64
      → AllByRecursion (λ n. n < 2 ^ 64) (numbers view)
      → reading (written (TileProcessed (numbers view))) ≡ Ok (TileProcessed (numbers view))
  written_read view some few small =
      let many : length (numbers view) ≡ length view.window = simp length-map in
      let there : 1 ≤ length view.window = some_tile view.window some in
      text_again (TileProcessed (numbers view))
      (small, list_length (length (numbers view)) (omega arith) (omega arith))

  pub written_lowers : {cut : C → Place → S} (id : ℕ) (view : View) (outs : Outs S)
      (new : Document S) → IsKept rules cut d → find_view d.views id ≡ Some view → view.window ≢ []
      → AllByRecursion (λ n. n < 2 ^ 64) (numbers view)
      → Says rules d id (written (TileProcessed (numbers view))) outs new
      → IsAcknowledged rules d id view outs new
  written_lowers id view outs new kept live some small says =
      let of_view : IsViewKept rules d view =
      found_view (IsViewKept rules d) d.views id view kept.each live in
      said_lowers id view (written (TileProcessed (numbers view))) outs new live some
      (written_read view some of_view.window_few small) says
