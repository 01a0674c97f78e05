-- The painted tiles of a job in the cache: which job they are of, that they are the machine's, and what they
-- show.
use Rattle.std.proofs.Common.{◌≡◌, ◌≢◌, ℕ, zero, suc, ◌+◌, ◌*◌, ◌<◌, ◌≤◌, Bool, true, false, not, ◌&&◌, ◌||◌, cond, List, [], ◌∷◌, ◌++◌, length, map, filter, take, get_or, Option, Some, None, refl, sym, ap, subst, ◌∙◌, arith, nat_eq, length-append, append-nil}
use Rattle.std.specs.List.{flat_map, AllByRecursion, remove}
use Rattle.std.specs.Map.{remove_entry}
use Rattle.std.proofs.lemmas.Bool.{eqb-true}
use Rattle.kit_trait.specs.Pictures.{Colour, picture, rows, row, rgba, x_at, y_at}
use Rattle.kit_trait.specs.Rules.{Rules, after, doc, shown}
use Rattle.kit_trait.specs.declared.values.Input.{Input}
use Rattle.kit_trait.specs.declared.values.Pixels.{Pixels}
use Rattle.tile_cache.specs.Calls.{AreSized, end_of, keep, keep_all, new_tiles, outs_but}
use Rattle.tile_cache.specs.declared.outs.Out.{Out}
use Rattle.tile_cache.specs.declared.tiles.KeyEnd.{KeyEnd}
use Rattle.tile_cache.specs.declared.tiles.KeyEnd.TheVariants.{Kept, Older}
use Rattle.document_machine.proofs.Lists.{same_self}
use Rattle.view_session.proofs.ListFacts.{pairs_keep}
use Rattle.tile_cache.specs.declared.tiles.Tile.{Tile}
use Rattle.tile_combine.specs.Parts.{picture_in}
use Rattle.tile_key.specs.Places.{Place, same_place}
use Rattle.document_machine.specs.Due.{is_current, touched}
use Rattle.document_machine.specs.Held.{KeptTile, with_kept, with_painted}
use Rattle.document_machine.specs.Keys.{Pairwise}
use Rattle.document_machine.specs.State.{Document, Job, find_job, without_job}
use Rattle.broker_core.specs.Caching.{IsTileOf, kept_tile, kept_tiles, out_of, outs_of}
use Rattle.broker_core.specs.Painting.{IsJobAt}
use Rattle.broker_core.specs.Sending.{is_present, ready_tiles}
use Rattle.broker_core.specs.declared.sending.Ready.{Ready}
use Rattle.broker_core.proofs.Awaited.{ticket_finds}
use Rattle.broker_core.proofs.Caches.{kept_same}
use Rattle.broker_core.proofs.Paintings.{IsReady}

-- the job at the place is found by its ticket
pub job_finds : {S : Type 0} (jobs : List (Job S)) (ticket : ℕ) (scene : S) (i : ℕ) (job : Job S) → IsJobAt jobs ticket scene i → get_or jobs i job ≡ job → find_job jobs ticket ≡ Some job
job_finds jobs ticket scene i job at is = ticket_finds jobs ticket i job at.within (subst (λ j. nat_eq j.ticket ticket ≡ true) is (at.here job)) is at.before

-- the jobs without it
pub job_leaves : {S : Type 0} (jobs : List (Job S)) (ticket : ℕ) (scene : S) (i : ℕ) (job : Job S) → IsJobAt jobs ticket scene i → get_or jobs i job ≡ job → without_job jobs ticket ≡ remove jobs i
job_leaves {S} jobs ticket scene i job at is = left jobs i at.within (subst (λ j. nat_eq j.ticket ticket ≡ true) is (at.here job)) is at.before
  where
    left : (list : List (Job S)) (k : ℕ) → k < length list → nat_eq job.ticket ticket ≡ true → get_or list k job ≡ job → AllByRecursion (λ (j : Job S). nat_eq j.ticket ticket ≡ false) (take k list) → without_job list ticket ≡ remove list k
    left [] k within same here before = absurd (omega arith)
    left (j ∷ list) zero within same here before =
        let t : nat_eq j.ticket ticket ≡ true = ap (λ (x : Job S). nat_eq x.ticket ticket) here ∙ same in
        rw t refl
    left (j ∷ list) (suc k) within same here before = rw before.0 (ap (λ js. j ∷ js) (left list k (omega arith) same here before.1))

filter_append : {X : Type 0} (p : X → Bool) (xs ys : List X) → filter p (xs ++ ys) ≡ filter p xs ++ filter p ys
filter_append p [] ys = refl
filter_append p (x ∷ xs) ys =
    let go : (b : Bool) → cond b (x ∷ filter p (xs ++ ys)) (filter p (xs ++ ys)) ≡ cond b (x ∷ filter p xs) (filter p xs) ++ filter p ys = elim [
      | true ↦ ap (λ zs. x ∷ zs) (filter_append p xs ys)
      | false ↦ filter_append p xs ys
    ] in
    go (p x)

not_same : (m n : ℕ) → m < n → nat_eq n m ≡ false
not_same m n lt =
    let go : (b : Bool) → nat_eq n m ≡ b → b ≡ false = elim [
      | true ↦ λ e. let same : n ≡ m = eqb-true n m e in absurd (omega arith)
      | false ↦ λ e. refl
    ] in
    go (nat_eq n m) refl

-- a key out is of the job with the ticket, or of another
abbrev own : (ticket : ℕ) → Out → Bool
own ticket out = nat_eq out.ticket ticket

abbrev other : (ticket : ℕ) → Out → Bool
other ticket out = not (nat_eq out.ticket ticket)

module _ {C B S : Type 0} (rules : Rules C B) (base : List ℕ) (journal : List Input) (applied ticket : ℕ) where
  -- the keys of one job, by whether its ticket is the one
  own_keys : (job : Job S) (b : Bool) (keys : List Place) → nat_eq job.ticket ticket ≡ b → filter (own ticket) (map (out_of rules base journal applied job) keys) ≡ cond b (map (out_of rules base journal applied job) keys) []
  own_keys job true [] is = refl
  own_keys job false [] is = refl
  own_keys job true (key ∷ keys) is = rw is (ap (λ outs. out_of rules base journal applied job key ∷ outs) (own_keys job true keys is))
  own_keys job false (key ∷ keys) is = rw is (own_keys job false keys is)

  other_keys : (job : Job S) (b : Bool) (keys : List Place) → nat_eq job.ticket ticket ≡ b → filter (other ticket) (map (out_of rules base journal applied job) keys) ≡ cond b [] (map (out_of rules base journal applied job) keys)
  other_keys job true [] is = refl
  other_keys job false [] is = refl
  other_keys job true (key ∷ keys) is = rw is (other_keys job true keys is)
  other_keys job false (key ∷ keys) is = rw is (ap (λ outs. out_of rules base journal applied job key ∷ outs) (other_keys job false keys is))

  abbrev all_out : List (Job S) → List Out
  all_out jobs = outs_of rules base journal applied jobs

  -- no key of these jobs is one of the job with the ticket
  none_own : (jobs : List (Job S)) → AllByRecursion (λ (j : Job S). nat_eq j.ticket ticket ≡ false) jobs → filter (own ticket) (all_out jobs) ≡ []
  none_own [] all = refl
  none_own (j ∷ jobs) all =
      filter_append (own ticket) (map (out_of rules base journal applied j) j.keys) (all_out jobs)
      ∙ ap (λ outs. outs ++ filter (own ticket) (all_out jobs)) (own_keys j false j.keys all.0) ∙ none_own jobs all.1

  all_other : (jobs : List (Job S)) → AllByRecursion (λ (j : Job S). nat_eq j.ticket ticket ≡ false) jobs → filter (other ticket) (all_out jobs) ≡ all_out jobs
  all_other [] all = refl
  all_other (j ∷ jobs) all =
      filter_append (other ticket) (map (out_of rules base journal applied j) j.keys) (all_out jobs)
      ∙ ap (λ outs. outs ++ filter (other ticket) (all_out jobs)) (other_keys j false j.keys all.0)
      ∙ ap (λ outs. map (out_of rules base journal applied j) j.keys ++ outs) (all_other jobs all.1)

  above : (jobs : List (Job S)) (low : ℕ) → low ≡ ticket → AllByRecursion (λ (j : Job S). low < j.ticket) jobs → AllByRecursion (λ (j : Job S). nat_eq j.ticket ticket ≡ false) jobs
  above [] low is all = tt
  above (j ∷ jobs) low is all = (not_same ticket j.ticket (let lt : low < j.ticket = all.0 in omega arith), above jobs low is all.1)

  -- the keys of the job at the place are those with its ticket
  pub own_same : (jobs : List (Job S)) (i : ℕ) (job : Job S) → Pairwise (λ (a b : Job S). a.ticket < b.ticket) jobs → i < length jobs → nat_eq job.ticket ticket ≡ true → get_or jobs i job ≡ job → AllByRecursion (λ (j : Job S). nat_eq j.ticket ticket ≡ false) (take i jobs) → filter (own ticket) (all_out jobs) ≡ map (out_of rules base journal applied job) job.keys
  own_same [] i job rising within same here before = absurd (omega arith)
  own_same (j ∷ jobs) zero job rising within same here before =
      let number : j.ticket ≡ ticket = ap (λ (x : Job S). x.ticket) here ∙ eqb-true job.ticket ticket same in
      filter_append (own ticket) (map (out_of rules base journal applied j) j.keys) (all_out jobs)
      ∙ ap (λ outs. outs ++ filter (own ticket) (all_out jobs)) (own_keys j true j.keys (ap (λ (x : Job S). nat_eq x.ticket ticket) here ∙ same))
      ∙ ap (λ outs. map (out_of rules base journal applied j) j.keys ++ outs) (none_own jobs (above jobs j.ticket number rising.0))
      ∙ append-nil (map (out_of rules base journal applied j) j.keys)
      ∙ ap (λ (x : Job S). map (out_of rules base journal applied x) x.keys) here
  own_same (j ∷ jobs) (suc i) job rising within same here before =
      filter_append (own ticket) (map (out_of rules base journal applied j) j.keys) (all_out jobs)
      ∙ ap (λ outs. outs ++ filter (own ticket) (all_out jobs)) (own_keys j false j.keys before.0)
      ∙ own_same jobs i job rising.1 (omega arith) same here before.1

  -- the others are those of the other jobs
  pub other_same : (jobs : List (Job S)) (i : ℕ) (job : Job S) → Pairwise (λ (a b : Job S). a.ticket < b.ticket) jobs → i < length jobs → nat_eq job.ticket ticket ≡ true → get_or jobs i job ≡ job → AllByRecursion (λ (j : Job S). nat_eq j.ticket ticket ≡ false) (take i jobs) → filter (other ticket) (all_out jobs) ≡ all_out (remove jobs i)
  other_same [] i job rising within same here before = absurd (omega arith)
  other_same (j ∷ jobs) zero job rising within same here before =
      let number : j.ticket ≡ ticket = ap (λ (x : Job S). x.ticket) here ∙ eqb-true job.ticket ticket same in
      filter_append (other ticket) (map (out_of rules base journal applied j) j.keys) (all_out jobs)
      ∙ ap (λ outs. outs ++ filter (other ticket) (all_out jobs)) (other_keys j true j.keys (ap (λ (x : Job S). nat_eq x.ticket ticket) here ∙ same))
      ∙ all_other jobs (above jobs j.ticket number rising.0)
  other_same (j ∷ jobs) (suc i) job rising within same here before =
      filter_append (other ticket) (map (out_of rules base journal applied j) j.keys) (all_out jobs)
      ∙ ap (λ outs. outs ++ filter (other ticket) (all_out jobs)) (other_keys j false j.keys before.0)
      ∙ ap (λ outs. map (out_of rules base journal applied j) j.keys ++ outs) (other_same jobs i job rising.1 (omega arith) same here before.1)

-- a picture has four bytes for each pixel
row_size : (colour : ℕ → ℕ → ℕ → Colour) (p : Place) (j n : ℕ) → length (row colour p j n) ≡ 4 * n
row_size colour p j zero = refl
row_size colour p j (suc n) = omega (arith, row_size colour p j n, length-append (row colour p j n) (rgba (colour p.part (x_at p n) (y_at p j))))

pub rows_size : (colour : ℕ → ℕ → ℕ → Colour) (p : Place) (n : ℕ) → length (rows colour p n) ≡ 4 * (n * p.width)
rows_size colour p zero = omega arith
rows_size colour p (suc n) =
    let rest : length (rows colour p n) ≡ 4 * (n * p.width) = rows_size colour p n in
    let one : length (row colour p n p.width) ≡ 4 * p.width = row_size colour p n p.width in
    length-append (rows colour p n) (row colour p n p.width) ∙ grind (arith, rest, one)

module _ {C B S : Type 0} (rules : Rules C B) (d : Document S) (job : Job S) where
  abbrev pub out_here : Place → Out
  out_here key = out_of rules d.base d.journal d.applied job key

  abbrev pub shown_here : Place → Pixels
  shown_here key = shown rules (doc rules d.base d.journal job.number) key

  -- the pictures of a job's keys have their sizes
  pub sized : (keys : List Place) → AreSized (map out_here keys) (map shown_here keys)
  sized [] = tt
  sized (key ∷ keys) = (refl, refl, rows_size (rules.colour (rules.body (doc rules d.base d.journal job.number)) key.nviewid) key key.height, sized keys)

  present_is : (key : Place) → is_present (end_of (out_here key)) ≡ is_current rules d job.number key
  present_is key = elim (touched rules d.base d.journal job.number key d.applied) as (λ b. is_present (cond b Older Kept) ≡ not b) [
    | true ↦ refl
    | false ↦ refl
  ]

  -- the painted tiles are ready: each is marked and shows its picture
  pub ready_are : (keys : List Place) → AllByRecursion (IsReady rules d job.number) (ready_tiles keys (map end_of (map out_here keys)) (map shown_here keys))
  ready_are [] = tt
  ready_are (key ∷ keys) = (record { current = sym (present_is key); shows = refl }, ready_are keys)

  pub ready_keys : (keys : List Place) → map (λ (tile : Ready). tile.key) (ready_tiles keys (map end_of (map out_here keys)) (map shown_here keys)) ≡ keys
  ready_keys [] = refl
  ready_keys (key ∷ keys) = ap (λ ks. key ∷ ks) (ready_keys keys)

  apart : (key : Place) (tiles : List KeptTile) → AllByRecursion (λ (tile : KeptTile). key ≢ tile.key) (filter (λ (tile : KeptTile). not (same_place tile.key key)) tiles)
  apart key [] = tt
  apart key (tile ∷ tiles) =
      let go : (b : Bool) → same_place tile.key key ≡ b → AllByRecursion (λ (t : KeptTile). key ≢ t.key) (cond (not b) (tile ∷ filter (λ (t : KeptTile). not (same_place t.key key)) tiles) (filter (λ (t : KeptTile). not (same_place t.key key)) tiles)) = elim [
        | true ↦ λ is. apart key tiles
        | false ↦ λ is. ((λ e. let same : same_place tile.key key ≡ true = subst (λ (k : Place). same_place k key ≡ true) e (same_self key) in absurd (cc)), apart key tiles)
      ] in
      go (same_place tile.key key) refl

  once_kept : (key : Place) (version : ℕ) (tiles : List KeptTile) → Pairwise (λ (a b : KeptTile). a.key ≢ b.key) tiles → Pairwise (λ (a b : KeptTile). a.key ≢ b.key) (with_kept tiles key version)
  once_kept key version tiles once = (apart key tiles, pairs_keep (λ (a b : KeptTile). a.key ≢ b.key) (λ tile. not (same_place tile.key key)) tiles once)

  -- what of them is kept in the cache is kept in the machine
  pub painted_same : (keys : List Place) (tiles : List (Place × Tile)) → Pairwise (λ (a b : KeptTile). a.key ≢ b.key) (kept_tiles tiles) → kept_tiles (keep_all (new_tiles (map out_here keys) (map shown_here keys)) tiles) ≡ with_painted rules d job.number keys (kept_tiles tiles)
  painted_same [] tiles once = refl
  painted_same (key ∷ keys) tiles once =
      let tile : Tile = record { number = job.number; rgba = (shown_here key).rgba; is_met = false } in
      let go : (b : Bool) → kept_tiles (keep_all (cond b (new_tiles (map out_here keys) (map shown_here keys)) ((key, tile) ∷ new_tiles (map out_here keys) (map shown_here keys))) tiles) ≡ with_painted rules d job.number keys (cond (not b) (with_kept (kept_tiles tiles) key job.number) (kept_tiles tiles)) = elim [
        | true ↦ painted_same keys tiles once
        | false ↦
            let here : kept_tiles (keep (key, tile) tiles) ≡ with_kept (kept_tiles tiles) key job.number = kept_same key tile tiles once in
            painted_same keys (keep (key, tile) tiles) (subst (λ ts. Pairwise (λ (a b : KeptTile). a.key ≢ b.key) ts) (sym here) (once_kept key job.number (kept_tiles tiles) once))
            ∙ ap (with_painted rules d job.number keys) here
      ] in
      go (touched rules d.base d.journal job.number key d.applied)

  stay_all : (P : Place × Tile → Type 0) (key : Place) (tiles : List (Place × Tile)) → AllByRecursion P tiles → AllByRecursion P (remove_entry (same_place key) tiles)
  stay_all P key [] all = tt
  stay_all P key (entry ∷ tiles) all = elim (same_place key entry.0) as (λ b. AllByRecursion P (cond b tiles (entry ∷ remove_entry (same_place key) tiles))) [
    | true ↦ all.1
    | false ↦ (all.0, stay_all P key tiles all.1)
  ]

  -- each tile that is kept then shows its picture and is marked
  pub tiles_all : (keys : List Place) (tiles : List (Place × Tile)) → AllByRecursion (IsTileOf rules d.base d.journal d.applied) tiles → AllByRecursion (IsTileOf rules d.base d.journal d.applied) (keep_all (new_tiles (map out_here keys) (map shown_here keys)) tiles)
  tiles_all [] tiles all = all
  tiles_all (key ∷ keys) tiles all =
      let tile : Tile = record { number = job.number; rgba = (shown_here key).rgba; is_met = false } in
      let go : (b : Bool) → touched rules d.base d.journal job.number key d.applied ≡ b → AllByRecursion (IsTileOf rules d.base d.journal d.applied) (keep_all (cond b (new_tiles (map out_here keys) (map shown_here keys)) ((key, tile) ∷ new_tiles (map out_here keys) (map shown_here keys))) tiles) = elim [
        | true ↦ λ met. tiles_all keys tiles all
        | false ↦ λ unmet. tiles_all keys (keep (key, tile) tiles) (record { shows = refl; marks = sym unmet }, stay_all (IsTileOf rules d.base d.journal d.applied) key tiles all)
      ] in
      go (touched rules d.base d.journal job.number key d.applied) refl

pub take_all : {X : Type 0} (P : X → Type 0) (n : ℕ) (xs : List X) → AllByRecursion P xs → AllByRecursion P (take n xs)
take_all P zero xs all = tt
take_all P (suc n) [] all = tt
take_all P (suc n) (x ∷ xs) all = (all.0, take_all P n xs all.1)

pub take_kept : (n : ℕ) (tiles : List (Place × Tile)) → kept_tiles (take n tiles) ≡ take n (kept_tiles tiles)
take_kept zero tiles = refl
take_kept (suc n) [] = refl
take_kept (suc n) (entry ∷ tiles) = ap (λ ts. kept_tile entry ∷ ts) (take_kept n tiles)

-- contents that inputs lead to are sound, with as many parts
module _ {C B : Type 0} (rules : Rules C B) (IsSound : C → Type 0) (sound_step : (c : C) (input : Input) → IsSound c → IsSound (rules.step c input)) where
  pub sound_after : (c : C) (inputs : List Input) → IsSound c → IsSound (after rules c inputs)
  sound_after c [] sound = sound
  sound_after c (input ∷ inputs) sound = sound_after (rules.step c input) inputs (sound_step c input sound)

  pub parts_after : ((c : C) (input : Input) → IsSound c → rules.parts (rules.body (rules.step c input)) ≡ rules.parts (rules.body c)) → (c : C) (inputs : List Input) → IsSound c → rules.parts (rules.body (after rules c inputs)) ≡ rules.parts (rules.body c)
  parts_after same c [] sound = refl
  parts_after same c (input ∷ inputs) sound = parts_after same (rules.step c input) inputs (sound_step c input sound) ∙ same c input sound
