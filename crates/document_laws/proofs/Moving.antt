-- Every move keeps what holds of a document with its kept tiles.
use Rattle.std.proofs.Common.{◌≡◌, ◌≢◌, ℕ, zero, suc, ◌+◌, ◌<◌, ◌≤◌, Bool, true, false, not, ◌&&◌, ◌||◌, cond, nat_eq, nat_le, List, [], ◌∷◌, ◌++◌, length, Option, None, Some, refl, ap, sym, subst, ◌∙◌, arith, inl, inr}
use Rattle.std.specs.Prelude.{nat_lt, slice_get}
use Rattle.std.specs.Option.{option_map_or}
use Rattle.std.specs.List.{AllByRecursion}
use Rattle.std.proofs.lemmas.Bool.{or_parts}
use Rattle.std.proofs.lemmas.List.{take-append-le}
use Rattle.std.proofs.lemmas.List.Folds.{list_any-append}
use Rattle.kit_trait.specs.Rules.{Rules, after, doc}
use Rattle.kit_trait.specs.declared.values.Input.{Input}
use Rattle.save_core.specs.Saving.{Saving, answered}
use Rattle.tile_key.specs.Places.{Place, IsGroup, IsRun, place_of_keys, same_place}
use Rattle.document_machine.proofs.Lists.{all_any, all_filter, all_push}
use Rattle.document_machine.proofs.Turns.{moves_step}
use Rattle.document_machine.specs.Due.{damage_of, is_current, is_hurt, is_out, parts_of, sent, touched}
use Rattle.document_machine.specs.Event.{Event, Joined, Left, Said, Turned, Painted, PutAnswered}
use Rattle.document_machine.specs.Goes.{Moves, next_work}
use Rattle.document_machine.specs.Held.{Held, KeepsPainted, KeptTile, current_version, kept_by, kept_painted, kept_version, opening_held, where_current, with_kept, with_painted}
use Rattle.document_machine.specs.Keys.{is_among}
use Rattle.document_machine.specs.Kept.{AreApart, IsHeld, IsJobKept, IsKept, IsNotAhead, IsPresentKept, IsTileKept, IsViewKept, ShareNone}
use Rattle.document_machine.specs.Message.{Effect, effect, heard, saving_after}
use Rattle.document_machine.specs.Next.{Work, Serve, Apply, Send, Cut, Rest}
use Rattle.document_machine.specs.Run.{Run}
use Rattle.document_machine.specs.Saves.{receipt_of, saving_left, saving_served}
use Rattle.document_machine.specs.State.{Shown, View, Job, Document, find_job, find_view, opening_view, with_view, without_job, without_view}
use Rattle.document_machine.specs.Step.{Does, JoinsWhere, Paints, views_offered}
use Rattle.document_machine.specs.declared.limits.TheConstants.{MOST_KEPT, MOST_VIEWS}
use Rattle.document_machine.specs.declared.outs.Outs.{Outs}
use Rattle.document_machine.specs.declared.outs.Turned.{Turned as TurnAnswer}
use Rattle.document_machine.specs.declared.outs.Turned.TheVariants.{Worked, Idle}
use Rattle.document_machine.specs.declared.rights.Rights.{Rights}
use Rattle.document_laws.proofs.Heard.{IsGood, effect_good, heard_is, keeps, none_of}
use Rattle.document_laws.proofs.Kept.{found_job, job_without_all, opening_keeps, steps_keep}
use Rattle.document_laws.proofs.KeptTiles.{AreOfTwo, OnScreens, all_others, all_painted, all_take, fewer_tiles, found_tile, offers_on, once_painted, once_with, pairwise_take, sent_on, take_few, tiles_found}
use Rattle.document_laws.proofs.KeptViews.{moved, with_all, without_all}
use Rattle.document_laws.proofs.KeyOrder.{same_is, same_sym}
use Rattle.document_laws.proofs.Ordered.{all_among, both, weaker}
use Rattle.document_laws.proofs.Picked.{current_none, current_some, cuts_unkept, sends_next}
use Rattle.document_laws.proofs.Views.{found_view}

-- what was touched among the inputs that are applied stays so, whatever inputs are behind them
get_more : {X : Type 0} (xs ys : List X) (n : ℕ) → n < length xs
    → slice_get (xs ++ ys) n ≡ slice_get xs n
get_more [] ys n lt = absurd (omega arith)
get_more (x ∷ xs) ys zero lt = refl
get_more (x ∷ xs) ys (suc n) lt = get_more xs ys n (omega arith)

module _ {C B : Type 0} (rules : Rules C B) (base : List ℕ) (journal more : List Input) where
  damage_more : (n : ℕ) → n < length journal
      → damage_of rules base (journal ++ more) n ≡ damage_of rules base journal n
  damage_more n lt =
      let le : n ≤ length journal = omega arith in
      let same : doc rules base (journal ++ more) n ≡ doc rules base journal n =
      ap (λ inputs. after rules (rules.start base) inputs) (take-append-le n journal more le) in
      ap (λ o. option_map_or (λ input. rules.hurt (doc rules base (journal ++ more) n) input) o [])
      (get_more journal more n lt)
      ∙ ap (λ c. option_map_or (λ input. rules.hurt c input) (slice_get journal n) []) same

  pub touched_more : (version : ℕ) (key : Place) (n : ℕ) → n ≤ length journal
      → touched rules base (journal ++ more) version key n
      ≡ touched rules base journal version key n
  touched_more version key zero le = refl
  touched_more version key (suc n) le =
      ap (λ b. b || (nat_le version n && is_hurt (damage_of rules base (journal ++ more) n) key))
      (touched_more version key n (omega arith))
      ∙ ap (λ hurt. touched rules base journal version key n
      || (nat_le version n && is_hurt hurt key)) (damage_more n (omega arith))

-- what is present once one more input was applied was present before
present_before : {C B : Type 0} (rules : Rules C B) (base : List ℕ) (journal : List Input)
    (version : ℕ) (key : Place) (n : ℕ)
    → not (touched rules base journal version key (n + 1)) ≡ true
    → not (touched rules base journal version key n) ≡ true
present_before rules base journal version key n e =
    let one : n + 1 ≡ suc n = omega arith in
    let none : (a b : Bool) → not (a || b) ≡ true → not a ≡ true =
    elim [ true ↦ λ b is. absurd (cc) | false ↦ λ b is. refl ] in
    none (touched rules base journal version key n)
    (nat_le version n && is_hurt (damage_of rules base journal n) key)
    (subst (λ m. not (touched rules base journal version key m) ≡ true) one e)

-- what follows of all that is on screens
on_weaker : (P Q : Shown → Type 0) (views : List View) → ((shown : Shown) → P shown → Q shown)
    → OnScreens P views → OnScreens Q views
on_weaker P Q views imp all =
    weaker (λ view. AllByRecursion P view.screen) (λ view. AllByRecursion Q view.screen) views
    (λ view is. weaker P Q view.screen imp is) all

-- keys out
none_among : (x : Place) (ys : List Place) → AllByRecursion (λ y. same_place x y ≡ false) ys
    → is_among ys x ≡ false
none_among x [] all = refl
none_among x (y ∷ ys) all = let off : same_place y x ≡ false = same_sym y x ∙ all.0 in
    rw (off, none_among x ys all.1) refl

share_sym : (xs ys : List Place) → AllByRecursion (λ y. is_among xs y ≡ false) ys
    → AllByRecursion (λ x. is_among ys x ≡ false) xs
share_sym [] ys all = tt
share_sym (x ∷ xs) ys all = (
  none_among x ys
      (weaker (λ y. is_among (x ∷ xs) y ≡ false) (λ y. same_place x y ≡ false) ys
      (λ y e. (or_parts (same_place x y) (is_among xs y) e).0) all),
  share_sym xs ys
      (weaker (λ y. is_among (x ∷ xs) y ≡ false) (λ y. is_among xs y ≡ false) ys
      (λ y e. (or_parts (same_place x y) (is_among xs y) e).1) all),
)

module _ {S : Type 0} where
  out_less : (jobs : List (Job S)) (ticket : ℕ) (key : Place) → is_out jobs key ≡ false
      → is_out (without_job jobs ticket) key ≡ false
  out_less [] ticket key e = refl
  out_less (j ∷ js) ticket key e =
      let parts = or_parts (is_among j.keys key) (is_out js key) e in
      elim (nat_eq j.ticket ticket) as
      (λ b. is_out (cond b js (j ∷ without_job js ticket)) key ≡ false) [
        | true ↦ parts.1
        | false ↦ rw (parts.0, out_less js ticket key parts.1) refl
      ]

  each_free : (jobs : List (Job S)) (key : Place) → is_out jobs key ≡ false
      → AllByRecursion (λ j. is_among j.keys key ≡ false) jobs
  each_free [] key e = tt
  each_free (j ∷ js) key e = let parts =
      or_parts (is_among j.keys key) (is_out js key) e in (parts.0, each_free js key parts.1)

  not_of : (jobs : List (Job S)) (ticket : ℕ) (job : Job S) (key : Place) → is_out jobs key ≡ false
      → find_job jobs ticket ≡ Some job → is_among job.keys key ≡ false
  not_of jobs ticket job key e found =
      found_job (λ j. is_among j.keys key ≡ false) jobs ticket job (each_free jobs key e) found

  -- of a key that is not out no job has a lower number than any
  free_above : (jobs : List (Job S)) (key : Place) (version : ℕ) → is_out jobs key ≡ false
      → AllByRecursion (λ j. is_among j.keys key ≡ true → version ≤ j.number) jobs
  free_above jobs key version e =
      weaker (λ j. is_among j.keys key ≡ false)
      (λ j. is_among j.keys key ≡ true → version ≤ j.number) jobs (λ j off on. absurd (cc))
      (each_free jobs key e)

  gone_from : (j : Job S) (js : List (Job S)) → AllByRecursion (ShareNone j) js
      → AllByRecursion (λ key. is_out js key ≡ false) j.keys
  gone_from j [] all = all_any (λ key. false ≡ false) j.keys (λ key. refl)
  gone_from j (k ∷ js) all =
      both (λ key. is_among k.keys key ≡ false) (λ key. is_out js key ≡ false)
      (λ key. is_out (k ∷ js) key ≡ false) j.keys
      (λ key p q. rw (p, q) refl) (share_sym j.keys k.keys all.0) (gone_from j js all.1)

  -- no other job has a key of one that came back
  apart_gone : (jobs : List (Job S)) (ticket : ℕ) (job : Job S) → AreApart jobs
      → find_job jobs ticket ≡ Some job
      → AllByRecursion (λ key. is_out (without_job jobs ticket) key ≡ false) job.keys
  apart_gone [] ticket job apart e = absurd (cc)
  apart_gone (j ∷ js) ticket job apart e =
      let go : (b : Bool) → cond b (Some j) (find_job js ticket) ≡ Some job
      → AllByRecursion
      (λ key. is_out (cond b js (j ∷ without_job js ticket)) key ≡ false) job.keys = elim [
        | true ↦ λ is. let same : j ≡ job = cc in
            subst (λ (k : Job S). AllByRecursion (λ key. is_out js key ≡ false) k.keys) same
            (gone_from j js apart.0)
        | false ↦ λ is.
            both (λ key. is_among j.keys key ≡ false)
            (λ key. is_out (without_job js ticket) key ≡ false)
            (λ key. is_out (j ∷ without_job js ticket) key ≡ false) job.keys
            (λ key p q. rw (p, q) refl) (found_job (ShareNone j) js ticket job apart.0 is)
            (apart_gone js ticket job apart.1 is)
      ] in
      go (nat_eq j.ticket ticket) e

-- keys of a group are in one part
run_parts : (most : ℕ) (p : Place) (ps : List Place) → IsRun p ps → p.part < most
    → AllByRecursion (λ key. key.part < most) ps
run_parts most p [] run lt = tt
run_parts most p (q ∷ qs) run lt =
    let same : q.part ≡ p.part = ap (λ (k : Place). k.part) run.0 in
    let here : q.part < most = omega arith in
    (here, run_parts most q qs run.1 here)

group_parts : (most : ℕ) (keys : List Place) → IsGroup keys → (place_of_keys keys).part < most
    → AllByRecursion (λ key. key.part < most) keys
group_parts most [] group lt = absurd group
group_parts most (p ∷ ps) group lt = (lt, run_parts most p ps group.1 lt)

module _ {C B S : Type 0} (rules : Rules C B) (cut : C → Place → S) where
  held_is : (new : Held S) (d : Document S) (tiles : List KeptTile) → new.document ≡ d
      → new.kept ≡ tiles → IsHeld rules cut (record { document = d; kept = tiles })
      → IsHeld rules cut new
  held_is new d tiles document_is kept_is held =
      subst (λ x. IsHeld rules cut (record { document = x; kept = new.kept })) (sym document_is)
      (subst (λ ts. IsHeld rules cut (record { document = d; kept = ts })) (sym kept_is) held)

  module _ (d : Document S) (tiles : List KeptTile)
      (held : IsHeld rules cut (record { document = d; kept = tiles })) where
    -- no job and no kept tile changes, and nothing new is on a screen
    stays_held : (journal : List Input) (applied : ℕ) (views : List View) (next_view : ℕ)
        (saving : Saving) → d.applied ≤ applied
        → ((version : ℕ) (key : Place)
        → is_current rules
        (moved rules d journal applied views next_view d.jobs d.next_ticket saving) version key
        ≡ true → is_current rules d version key ≡ true)
        → ((P : Shown → Type 0) → OnScreens P d.views → OnScreens P views)
        → IsKept rules cut
        (moved rules d journal applied views next_view d.jobs d.next_ticket saving)
        → IsHeld rules cut
        (record {
          document =
              moved rules d journal applied views next_view d.jobs d.next_ticket saving;
          kept =
              tiles;
        })
    stays_held journal applied views next_view saving le current screens kept =
        let now : Document S =
        moved rules d journal applied views next_view d.jobs d.next_ticket saving in
        record {
          document = kept;
          kept_few = held.kept_few;
          kept_once = held.kept_once;
          kept_each =
              weaker (IsTileKept rules d) (IsTileKept rules now) tiles
              (λ tile is. record {
                part = is.part;
                version = let past : tile.version ≤ d.applied = is.version in
                    omega arith;
              }) held.kept_each;
          kept_present =
              weaker (λ tile. is_current rules d tile.version tile.key ≡ true
              → IsPresentKept d tile)
              (λ tile. is_current rules now tile.version tile.key ≡ true → IsPresentKept now tile)
              tiles
              (λ tile is present.
              let had : IsPresentKept d tile = is (current tile.version tile.key present) in
              record {
                free = had.free;
                not_ahead =
                    screens (λ shown. shown.key ≡ tile.key → shown.version ≤ tile.version)
                    had.not_ahead;
              }) held.kept_present;
          not_ahead = screens (IsNotAhead d.jobs) held.not_ahead;
        }

    -- the kept tile of a key was sent
    send_held : (view : View) (key : Place) (version : ℕ) → find_view d.views view.id ≡ Some view
        → kept_version tiles key ≡ Some version → is_current rules d version key ≡ true
        → IsKept rules cut
        (record d { views = with_view d.views view.id (sent rules d version key) })
        → IsHeld rules cut
        (record {
          document =
              record d { views = with_view d.views view.id (sent rules d version key) };
          kept =
              with_kept tiles key version;
        })
    send_held view key version live found present kept =
        let now : Document S =
        record d { views = with_view d.views view.id (sent rules d version key) } in
        let had : IsPresentKept d (record { key = key; version = version }) =
        found_tile (λ tile. is_current rules d tile.version tile.key ≡ true
        → IsPresentKept d tile) tiles key version held.kept_present found present in
        let screens : (P : Shown → Type 0) → P (record { key = key; version = version })
        → OnScreens P d.views → OnScreens P now.views = λ P here all.
        with_all (λ v. AllByRecursion P v.screen) d.views view.id
        (sent rules d version key) view live
        (sent_on rules d version P key view here
        (found_view (λ v. AllByRecursion P v.screen) d.views view.id view all live)) all in
        record {
          document = kept;
          kept_few = let few : length tiles ≤ MOST_KEPT = held.kept_few in
              omega (arith, fewer_tiles tiles key version found, few);
          kept_once = once_with tiles key version held.kept_once;
          kept_each = (
            let is : IsTileKept rules d (record { key = key; version = version }) =
                found_tile (IsTileKept rules d) tiles key version held.kept_each found in
                record { part = is.part; version = is.version },
            all_others (IsTileKept rules d) (IsTileKept rules now) tiles key
                (λ tile apart is. record { part = is.part; version = is.version }) held.kept_each,
          );
          kept_present = (
            λ again. record {
              free = had.free;
              not_ahead =
                  screens (λ shown. shown.key ≡ key → shown.version ≤ version)
                  (λ same. omega arith) had.not_ahead;
            },
            all_others (λ tile. is_current rules d tile.version tile.key ≡ true
                → IsPresentKept d tile)
                (λ tile. is_current rules now tile.version tile.key ≡ true → IsPresentKept now tile)
                tiles key
                (λ tile apart is current.
                let was : IsPresentKept d tile = is current in
                record {
                  free = was.free;
                  not_ahead =
                      screens (λ shown. shown.key ≡ tile.key → shown.version ≤ tile.version)
                      (λ same. absurd (apart same)) was.not_ahead;
                }) held.kept_present,
          );
          not_ahead =
              screens (IsNotAhead d.jobs) (free_above d.jobs key version had.free) held.not_ahead;
        }

    -- a present tile's key is not among keys of which none is kept
    not_unkept : (tile : KeptTile) → kept_version tiles tile.key ≡ Some tile.version
        → is_current rules d tile.version tile.key ≡ true
        → (keys : List Place)
        → AllByRecursion
        (λ key. current_version rules (record { document = d; kept = tiles }) key ≡ None) keys
        → is_among keys tile.key ≡ false
    not_unkept tile found current [] unkept = refl
    not_unkept tile found current (k ∷ ks) unkept =
        let go : (b : Bool) → same_place k tile.key ≡ b → (b || is_among ks tile.key) ≡ false =
        elim [
          | true ↦ λ same.
              let is : k ≡ tile.key = same_is k tile.key same in
              let none : where_current rules d tile.key (kept_version tiles tile.key) ≡ None =
              subst (λ x. where_current rules d x (kept_version tiles x) ≡ None) is unkept.0 in
              let not_current : is_current rules d tile.version tile.key ≡ false =
              current_none rules d tile.key tile.version
              (ap (where_current rules d tile.key) (sym found) ∙ none) in
              absurd (cc)
          | false ↦ λ apart. not_unkept tile found current ks unkept.1
        ] in
        go (same_place k tile.key) refl

    -- a job was cut for keys of which no present tile is kept
    cut_held : (job : Job S) (ticket : ℕ) → job.number ≡ d.applied
        → AllByRecursion
        (λ key. current_version rules (record { document = d; kept = tiles }) key ≡ None) job.keys
        → IsKept rules cut (record d { jobs = d.jobs ++ job ∷ []; next_ticket = ticket })
        → IsHeld rules cut
        (record {
          document =
              record d { jobs = d.jobs ++ job ∷ []; next_ticket = ticket };
          kept = tiles;
        })
    cut_held job ticket number_is unkept kept =
        let now : Document S = record d { jobs = d.jobs ++ job ∷ []; next_ticket = ticket } in
        let versions : OnScreens (λ shown. shown.version ≤ d.applied) d.views =
        weaker (IsViewKept rules d)
        (λ view. AllByRecursion (λ shown. shown.version ≤ d.applied) view.screen) d.views
        (λ view is. is.versions) held.document.each in
        record {
          document = kept;
          kept_few = held.kept_few;
          kept_once = held.kept_once;
          kept_each =
              weaker (IsTileKept rules d) (IsTileKept rules now) tiles
              (λ tile is. record { part = is.part; version = is.version }) held.kept_each;
          kept_present =
              both (λ tile. kept_version tiles tile.key ≡ Some tile.version)
              (λ tile. is_current rules d tile.version tile.key ≡ true → IsPresentKept d tile)
              (λ tile. is_current rules now tile.version tile.key ≡ true → IsPresentKept now tile)
              tiles
              (λ tile found is current.
              let had : IsPresentKept d tile = is current in
              let not_cut : is_among job.keys tile.key ≡ false =
              not_unkept tile found current job.keys unkept in
              record {
                free = list_any-append (λ j. is_among j.keys tile.key) d.jobs (job ∷ [])
                    ∙ rw (had.free, not_cut) refl;
                not_ahead = had.not_ahead;
              }) (tiles_found tiles held.kept_once) held.kept_present;
          not_ahead =
              both (λ view. AllByRecursion (IsNotAhead d.jobs) view.screen)
              (λ view. AllByRecursion (λ shown. shown.version ≤ d.applied) view.screen)
              (λ view. AllByRecursion (IsNotAhead (d.jobs ++ job ∷ [])) view.screen) d.views
              (λ view a b. both (IsNotAhead d.jobs) (λ shown. shown.version ≤ d.applied)
              (IsNotAhead (d.jobs ++ job ∷ [])) view.screen
              (λ shown p q. all_push
              (λ j. is_among j.keys shown.key ≡ true → shown.version ≤ j.number) d.jobs job p
              (λ among. omega (arith, q, number_is))) a b) held.not_ahead versions;
        }

    -- a painted result was taken
    paint_held : (ticket : ℕ) (job : Job S) → find_job d.jobs ticket ≡ Some job
        → IsKept rules cut
        (record d {
          jobs = without_job d.jobs ticket;
          views =
              views_offered rules d job.number job.keys d.views;
        })
        → IsHeld rules cut
        (record {
          document =
              record d {
                jobs = without_job d.jobs ticket;
                views =
                    views_offered rules d job.number job.keys d.views;
              };
          kept =
              kept_painted rules d job tiles;
        })
    paint_held ticket job found kept =
        let n : ℕ = job.number in
        let now : Document S =
        record d {
          jobs = without_job d.jobs ticket;
          views =
              views_offered rules d n job.keys d.views;
        } in
        let painted : List KeptTile = with_painted rules d n job.keys tiles in
        let is_job : IsJobKept rules cut d job =
        found_job (IsJobKept rules cut d) d.jobs ticket job held.document.jobs found in
        let parts : AllByRecursion (λ key. key.part < parts_of rules d.base) job.keys =
        group_parts (parts_of rules d.base) job.keys is_job.group
        (subst (λ (p : Place). p.part < parts_of rules d.base) is_job.area_is is_job.part) in
        let gone : AllByRecursion (λ key. is_out (without_job d.jobs ticket) key ≡ false) job.keys =
        apart_gone d.jobs ticket job held.document.apart found in
        let screens : (P : Shown → Type 0)
        → AllByRecursion (λ key. P (record { key = key; version = n })) job.keys
        → OnScreens P d.views → OnScreens P now.views =
        λ P. offers_on rules d n P job.keys d.views in
        let own : (key : Place) → is_among job.keys key ≡ true
        → OnScreens (λ shown. shown.key ≡ key → shown.version ≤ n) d.views = λ key among.
        on_weaker (IsNotAhead d.jobs) (λ shown. shown.key ≡ key → shown.version ≤ n) d.views
        (λ shown ahead same.
        found_job (λ j. is_among j.keys shown.key ≡ true → shown.version ≤ j.number) d.jobs ticket
        job ahead found (ap (is_among job.keys) same ∙ among)) held.not_ahead in
        let Present : KeptTile → Type 0 = λ tile. is_current rules d tile.version tile.key ≡ true
        → IsPresentKept now tile in
        let new_ones : AllByRecursion
        (λ key. is_current rules d n key ≡ true → Present (record { key = key; version = n }))
        job.keys =
        both (λ key. is_among job.keys key ≡ true)
        (λ key. is_out (without_job d.jobs ticket) key ≡ false)
        (λ key. is_current rules d n key ≡ true → Present (record { key = key; version = n }))
        job.keys
        (λ key among free now_current again. record {
          free = free;
          not_ahead =
              screens (λ shown. shown.key ≡ key → shown.version ≤ n)
              (all_any (λ k. k ≡ key → n ≤ n) job.keys (λ k same. omega arith)) (own key among);
        }) (all_among job.keys) gone in
        let old_ones : AllByRecursion Present tiles =
        weaker (λ tile. is_current rules d tile.version tile.key ≡ true → IsPresentKept d tile)
        Present tiles
        (λ tile is current.
        let had : IsPresentKept d tile = is current in
        let apart : AllByRecursion (λ key. key ≢ tile.key) job.keys =
        none_of job.keys tile.key (not_of d.jobs ticket job tile.key had.free found) in
        record {
          free = out_less d.jobs ticket tile.key had.free;
          not_ahead =
              screens (λ shown. shown.key ≡ tile.key → shown.version ≤ tile.version)
              (weaker (λ key. key ≢ tile.key) (λ key. key ≡ tile.key → n ≤ tile.version) job.keys
              (λ key off same. absurd (off same)) apart) had.not_ahead;
        }) held.kept_present in
        record {
          document = kept;
          kept_few = take_few MOST_KEPT painted;
          kept_once =
              pairwise_take AreOfTwo MOST_KEPT painted
              (once_painted rules d n job.keys tiles held.kept_once);
          kept_each = all_take (IsTileKept rules now) MOST_KEPT painted
              (all_painted rules d n (IsTileKept rules now) job.keys tiles
              (weaker (λ key. key.part < parts_of rules d.base)
              (λ key. is_current rules d n key ≡ true
              → IsTileKept rules now (record { key = key; version = n })) job.keys
              (λ key lt current. record { part = lt; version = is_job.number }) parts)
              (weaker (IsTileKept rules d) (IsTileKept rules now) tiles
              (λ tile is. record { part = is.part; version = is.version }) held.kept_each));
          kept_present =
              all_take Present MOST_KEPT painted
              (all_painted rules d n Present job.keys tiles new_ones old_ones);
          not_ahead = screens (IsNotAhead (without_job d.jobs ticket))
              (weaker (λ key. is_out (without_job d.jobs ticket) key ≡ false)
              (λ key. IsNotAhead (without_job d.jobs ticket)
              (record { key = key; version = n })) job.keys
              (λ key free. free_above (without_job d.jobs ticket) key n free) gone)
              (on_weaker (IsNotAhead d.jobs) (IsNotAhead (without_job d.jobs ticket)) d.views
              (λ shown ahead. job_without_all
              (λ j. is_among j.keys shown.key ≡ true → shown.version ≤ j.number) d.jobs ticket
              ahead) held.not_ahead);
        }

  module _ (old new : Held S) (held : IsHeld rules cut old) where
    -- the views, inputs and saves of the document change, its jobs and the kept tiles don't
    stays : (journal : List Input) (applied : ℕ) (views : List View) (next_view : ℕ)
        (saving : Saving) → old.document.applied ≤ applied
        → new.document
        ≡ moved rules old.document journal applied views next_view old.document.jobs
        old.document.next_ticket saving → new.kept ≡ old.kept
        → ((version : ℕ) (key : Place)
        → is_current rules
        (moved rules old.document journal applied views next_view old.document.jobs
        old.document.next_ticket saving) version key ≡ true
        → is_current rules old.document version key ≡ true)
        → ((P : Shown → Type 0) → OnScreens P old.document.views → OnScreens P views)
        → IsKept rules cut new.document → IsHeld rules cut new
    stays journal applied views next_view saving le document_is kept_is current screens kept =
        held_is new
        (moved rules old.document journal applied views next_view old.document.jobs
        old.document.next_ticket saving) old.kept document_is kept_is
        (stays_held old.document old.kept held journal applied views next_view saving le current
        screens (subst (IsKept rules cut) document_is kept))

    -- only its views and saves do
    views_stay : (views : List View) (next_view : ℕ) (saving : Saving)
        → new.document
        ≡ record old.document { views = views; next_view = next_view; saving = saving }
        → new.kept ≡ old.kept
        → ((P : Shown → Type 0) → OnScreens P old.document.views → OnScreens P views)
        → IsKept rules cut new.document → IsHeld rules cut new
    views_stay views next_view saving document_is kept_is screens kept =
        stays old.document.journal old.document.applied views next_view saving
        (omega arith) document_is kept_is (λ version key is. is) screens kept

    -- nothing changes
    same_held : new.document ≡ old.document → new.kept ≡ old.kept → IsHeld rules cut new
    same_held document_is kept_is = held_is new old.document old.kept document_is kept_is held

    join_moves : (rights : Rights) (outs : Outs S) (b : Bool)
        → JoinsWhere b rules old.document rights outs new.document → new.kept ≡ old.kept
        → IsKept rules cut new.document → IsHeld rules cut new
    join_moves rights outs true joins kept_is kept =
        views_stay (old.document.views ++ opening_view old.document.next_view rights ∷ [])
        (old.document.next_view + 1) old.document.saving joins.1 kept_is
        (λ P all. all_push (λ view. AllByRecursion P view.screen) old.document.views
        (opening_view old.document.next_view rights) all tt) kept
    join_moves rights outs false joins kept_is kept = same_held joins.1 kept_is

    heard_moves : (id : ℕ) (view : View) (e : Effect) → find_view old.document.views id ≡ Some view
        → IsGood rules old.document view e
        → new.document ≡ heard old.document id e → new.kept ≡ old.kept
        → IsKept rules cut new.document → IsHeld rules cut new
    heard_moves id view e live good document_is kept_is kept =
        let d : Document S = old.document in
        let level : d.applied ≤ length d.journal = held.document.level in
        stays (d.journal ++ e.inputs) d.applied (with_view d.views id (keeps e.view)) d.next_view
        (saving_after id (length d.journal) e d.saving) (omega arith)
        (document_is ∙ heard_is d id view e live good.id) kept_is
        (λ version key is. ap not
        (sym (touched_more rules d.base d.journal e.inputs version key d.applied level)) ∙ is)
        (λ P all.
        let was : AllByRecursion P view.screen =
        found_view (λ v. AllByRecursion P v.screen) d.views id view all live in
        let now : AllByRecursion P e.view.screen =
        subst (AllByRecursion P) (sym good.screen.1)
        (all_filter P good.screen.0 view.screen was) in
        with_all (λ v. AllByRecursion P v.screen) d.views id (keeps e.view) view live now all) kept

    -- what each work keeps
    does_moves : (work : Work) (turned : TurnAnswer S) → next_work rules old ≡ work
        → Does rules cut old.document work turned new.document → new.kept ≡ kept_by old.kept work
        → IsKept rules cut new.document → IsHeld rules cut new
    does_moves Serve (Worked outs) picked serves kept_is kept =
        views_stay old.document.views old.document.next_view
        (saving_served rules old.document) serves.new_is kept_is (λ P all. all) kept
    does_moves Apply (Worked outs) picked applies kept_is kept =
        let d : Document S = old.document in
        stays d.journal (d.applied + 1) d.views d.next_view d.saving
        (omega arith) applies.new_is kept_is
        (λ version key is. present_before rules d.base d.journal version key d.applied is)
        (λ P all. all) kept
    does_moves (Send id key version) (Worked outs) picked
        (sends, id_is, key_is, version_is) kept_is kept =
        let d : Document S = old.document in
        let found : current_version rules old key
        ≡ Some version =
        (sends_next rules d (current_version rules old) id key version picked).3 in
        let some = current_some rules d key (kept_version old.kept key) version found in
        let changed : new.document
        ≡ record d { views = with_view d.views sends.view.id (sent rules d version key) } =
        sends.new_is
        ∙ ap (λ k. record d
        { views = with_view d.views sends.view.id (sent rules d sends.version k) }) key_is
        ∙ ap (λ n. record d { views = with_view d.views sends.view.id (sent rules d n key) })
        version_is in
        held_is new
        (record d { views = with_view d.views sends.view.id (sent rules d version key) })
        (with_kept old.kept key version) changed kept_is
        (send_held d old.kept held sends.view key version sends.live some.0 some.1
        (subst (IsKept rules cut) changed kept))
    does_moves (Cut id keys) (Worked outs) picked (cuts, keys_are) kept_is kept =
        let d : Document S = old.document in
        let unkept : AllByRecursion (λ key. current_version rules old key ≡ None) cuts.job.keys =
        subst (AllByRecursion (λ key. current_version rules old key ≡ None)) (sym keys_are)
        (cuts_unkept rules d (current_version rules old) id keys picked) in
        held_is new
        (record d { jobs = d.jobs ++ cuts.job ∷ []; next_ticket = d.next_ticket + 1 }) old.kept
        cuts.new_is kept_is
        (cut_held d old.kept held cuts.job (d.next_ticket + 1) cuts.number_is unkept
        (subst (IsKept rules cut) cuts.new_is kept))
    does_moves Rest Idle picked rests kept_is kept = same_held rests.1 kept_is
    does_moves Serve Idle picked does kept_is kept = absurd does
    does_moves Apply Idle picked does kept_is kept = absurd does
    does_moves (Send id key version) Idle picked does kept_is kept = absurd does
    does_moves (Cut id keys) Idle picked does kept_is kept = absurd does
    does_moves Rest (Worked outs) picked does kept_is kept = absurd does

    paint_moves : (ticket : ℕ) (scene : S) (outs : Outs S) (o : Option (Job S))
        → find_job old.document.jobs ticket ≡ o
        → Paints rules old.document ticket scene outs new.document o
        → KeepsPainted rules old scene new.kept o → IsKept rules cut new.document
        → IsHeld rules cut new
    paint_moves ticket scene outs None found paint keeps kept = same_held paint.1 keeps
    paint_moves ticket scene outs (Some job) found paint keeps kept =
        elim paint [
          | inl other ↦ elim keeps [
            | inl same ↦ same_held other.2 same.1
            | inr taken ↦ absurd (other.0 taken.0)
          ]
          | inr taken ↦ elim keeps [
            | inl other ↦ absurd (other.0 taken.0)
            | inr painted ↦
                let d : Document S = old.document in
                held_is new
                (record d {
                  jobs = without_job d.jobs ticket;
                  views =
                      views_offered rules d job.number job.keys d.views;
                })
                (kept_painted rules d job old.kept) taken.2 painted.1
                (paint_held d old.kept held ticket job found
                (subst (IsKept rules cut) taken.2 kept))
          ]
        ]

  -- each event keeps it, where the document is kept
  event_keeps : ((base : List ℕ) → 0 < parts_of rules base)
      → (old new : Held S) (event : Event S) (outs : Outs S) → Moves rules cut old event outs new
      → IsHeld rules cut old → IsKept rules cut new.document → IsHeld rules cut new
  event_keeps some old new (Joined rights) outs moves held kept =
      join_moves old new held rights outs
      (nat_lt (length old.document.views) MOST_VIEWS) moves.0 moves.1 kept
  event_keeps some old new (Left id) outs moves held kept =
      views_stay old new held (without_view old.document.views id) old.document.next_view
      (saving_left old.document id) moves.0.1 moves.1
      (λ P. without_all (λ view. AllByRecursion P view.screen) old.document.views id) kept
  event_keeps some old new (Said id text) outs moves held kept =
      let view : View = moves.0.view in
      let of_view : IsViewKept rules old.document view =
      found_view (IsViewKept rules old.document) old.document.views id view held.document.each
      moves.0.live in
      heard_moves old new held id view (effect rules old.document view text) moves.0.live
      (effect_good rules old.document view of_view text) moves.0.new_is moves.1 kept
  event_keeps some old new Turned outs moves held kept =
      does_moves old new held (next_work rules old) moves.0 refl moves.1.0 moves.1.1 kept
  event_keeps some old new (Painted ticket scene) outs moves held kept =
      paint_moves old new held ticket scene outs
      (find_job old.document.jobs ticket) refl moves.0 moves.1 kept
  event_keeps some old new (PutAnswered ticket result) outs moves held kept =
      views_stay old new held old.document.views old.document.next_view
      (answered ticket (receipt_of result) old.document.saving) moves.0.1 moves.1
      (λ P all. all) kept

  -- a move keeps it, in documents that have a part
  pub moves_keep : ((base : List ℕ) → 0 < parts_of rules base)
      → (old new : Held S) (event : Event S) (outs : Outs S) → Moves rules cut old event outs new
      → IsHeld rules cut old → IsHeld rules cut new
  moves_keep some old new event outs moves held =
      event_keeps some old new event outs moves held
      (steps_keep rules cut some old.document new.document event outs
      (moves_step rules cut old new event outs moves) held.document)

  -- so does a run
  pub move_runs_keep : ((base : List ℕ) → 0 < parts_of rules base)
      → (events : List (Event S)) (old new : Held S) (outs : Outs S)
      → Run (Moves rules cut) old events outs new → IsHeld rules cut old → IsHeld rules cut new
  move_runs_keep some [] old new outs run held = subst (IsHeld rules cut) (sym run.1) held
  move_runs_keep some (event ∷ events) old new outs run held =
      move_runs_keep some events run.0 new run.2 run.4
      (moves_keep some old run.0 event run.1 run.3 held)

  -- a document as it is loaded keeps it
  pub opening_held_keeps : (file base : List ℕ) → rules.accepts base ≡ true
      → IsHeld rules cut (opening_held {S = S} file base)
  opening_held_keeps file base accepted = record {
    document = opening_keeps rules cut file base accepted;
    kept_few = omega arith;
    kept_once = tt;
    kept_each = tt;
    kept_present = tt;
    not_ahead = tt;
  }
