-- Over any run of the calls there is room for a final save, or a final save is not answered.
use Rattle.std.proofs.Common.{ℕ, ◌≡◌, Bool, true, false, cond, not, ◌&&◌, ◌||◌, List, [], ◌∷◌, ◌++◌, map, filter, Option, Some, None, is_none, is_some, nat_eq, refl}
use Rattle.std.specs.List.{list_any}
use Rattle.save_core.specs.declared.values.Save.{Save}
use Rattle.save_core.specs.declared.values.Put.{Put}
use Rattle.save_core.specs.Saving.{Saving, opening, last_stored, is_ready, is_ready_save, is_unmodified, bound_to, left_over, errand_for, begun, served, answered_put, ended, final_with}
use Rattle.outside.specs.declared.errands.Errand.{Errand}
use Rattle.save_core.specs.Runs.{Event, Waited, Served, Answered, Kept, WaitedFinal, next, after_all, is_final}

-- where a token is kept, its room is there or a final save waits
abbrev IsRoom : Saving → Type 0
IsRoom s = is_some s.last_token ≡ true → (s.has_room || list_any is_final s.saves) ≡ true

or_right : (a b c : Bool) → (a || b) ≡ true → (b ≡ true → c ≡ true) → (a || c) ≡ true
or_right true b c h k = refl
or_right false b c h k = k h

any_more : (saves : List Save) (save : Save) → list_any is_final saves ≡ true → list_any is_final (saves ++ save ∷ []) ≡ true
any_more [] save h = absurd (cc)
any_more (other ∷ saves) save h = or_right (is_final other) (list_any is_final saves) (list_any is_final (saves ++ save ∷ [])) h (any_more saves save)

any_last : (saves : List Save) (save : Save) → is_final save ≡ true → list_any is_final (saves ++ save ∷ []) ≡ true
any_last [] save h = rw h refl
any_last (other ∷ saves) save h =
    let go : (b : Bool) → (b || list_any is_final (saves ++ save ∷ [])) ≡ true = elim [
      | true ↦ refl
      | false ↦ any_last saves save h
    ] in
    go (is_final other)

any_left : (applied last : ℕ) (saves : List Save) → list_any is_final saves ≡ true → list_any is_final (left_over applied last saves) ≡ true
any_left applied last [] h = h
any_left applied last (save ∷ saves) h =
    let rest = any_left applied last saves in
    let go : (n s r m : Bool) → is_none save.view ≡ n → save.skip ≡ s → ((n && not s) || list_any is_final saves) ≡ true → list_any is_final (map (bound_to applied) (cond (not (r && (s && m))) (save ∷ filter (λ (s : Save). not (is_unmodified applied last s)) saves) (filter (λ (s : Save). not (is_unmodified applied last s)) saves))) ≡ true = elim [
      | true ↦ elim [
        | true ↦ elim [
          | true ↦ elim [
            | true ↦ λ e f h. rest h
            | false ↦ λ e f h. rw (e, f) (rest h)
          ]
          | false ↦ λ m e f h. rw (e, f) (rest h)
        ]
        | false ↦ elim [
          | true ↦ λ m e f h. rw (e, f) refl
          | false ↦ λ m e f h. rw (e, f) refl
        ]
      ]
      | false ↦ λ s. elim [
        | true ↦ λ m e f h. let go : (b : Bool) → list_any is_final (map (bound_to applied) (cond (not b) (save ∷ filter (λ (s : Save). not (is_unmodified applied last s)) saves) (filter (λ (s : Save). not (is_unmodified applied last s)) saves))) ≡ true = elim [
          | true ↦ rest h
          | false ↦ rw e (rest h)
        ] in go (s && m)
        | false ↦ λ m e f h. rw e (rest h)
      ]
    ] in
    go (is_none save.view) save.skip (is_ready_save applied save) (nat_eq last applied) refl refl h

begun_room : (o : Option Errand) (s : Saving) → IsRoom s → IsRoom (begun o s)
begun_room None s room = room
begun_room (Some errand) s room = room

served_room : (applied : ℕ) (file content : List ℕ) (s : Saving) → IsRoom s → IsRoom (served applied file content s)
served_room applied file content s room =
    begun_room (errand_for applied file content s) (record s { saves = left_over applied (last_stored s) s.saves })
    (λ kept. or_right s.has_room (list_any is_final s.saves) (list_any is_final (left_over applied (last_stored s) s.saves)) (room kept) (any_left applied (last_stored s) s.saves))

ended_room : (o : Option Put) (stored : Bool) (s : Saving) → IsRoom s → IsRoom (ended o stored s)
ended_room None stored s room = room
ended_room (Some put) stored s room = λ kept. rw kept refl

final_room : (mark : ℕ) (o : Option (List ℕ)) (s : Saving) → IsRoom s → IsRoom (final_with mark o s)
final_room mark None s room = room
final_room mark (Some token) s room = λ kept. any_last s.saves (record { view = None; mark = mark; skip = false; token = token; bound = false }) refl

step_room : (event : Event) (s : Saving) → IsRoom s → IsRoom (next event s)
step_room (Waited view mark skip token) s room =
    let save : Save = record { view = view; mark = mark; skip = skip; token = token; bound = false } in
    λ kept. or_right s.has_room (list_any is_final s.saves) (list_any is_final (s.saves ++ save ∷ [])) (room kept) (any_more s.saves save)
step_room (Served applied file content) s room =
    let go : (b : Bool) → IsRoom (cond b (served applied file content s) s) = elim [
      | true ↦ served_room applied file content s room
      | false ↦ room
    ] in
    go (is_ready applied s)
step_room (Answered ticket receipt) s room = ended_room (answered_put ticket receipt s.put) (is_some receipt) s room
step_room (Kept token) s room = λ kept. refl
step_room (WaitedFinal mark) s room = final_room mark s.last_token s room

run_room : (events : List Event) (s : Saving) → IsRoom s → IsRoom (after_all events s)
run_room [] s room = room
run_room (event ∷ events) s room = run_room events (next event s) (step_room event s room)

pub has_room : (events : List Event) → is_some (after_all events opening).last_token ≡ true → list_any is_final (after_all events opening).saves ≡ false → (after_all events opening).has_room ≡ true
has_room events kept none =
    let s = after_all events opening in
    let room : (s.has_room || list_any is_final s.saves) ≡ true = run_room events opening (λ never. absurd (cc)) kept in
    let go : (b c : Bool) → c ≡ false → (b || c) ≡ true → b ≡ true = elim [
      | true ↦ λ c e h. refl
      | false ↦ λ c e h. absurd (cc)
    ] in
    go s.has_room (list_any is_final s.saves) none room
