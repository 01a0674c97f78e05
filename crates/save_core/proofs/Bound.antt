-- Over any run of the calls a bound save's mark is at most the number of the put under way.
use Rattle.std.proofs.Common.{ℕ, ◌≡◌, ◌≤◌, Bool, true, false, cond, not, ◌&&◌, ◌||◌, List, [], ◌∷◌, ◌++◌, map, filter, find, Option, Some, None, option_map, is_none, is_some, nat_eq, nat_le, refl, sym, ap, subst, ◌∙◌, rules, arith}
use Rattle.std.specs.List.{AllByRecursion, list_any}
use Rattle.std.proofs.lemmas.Bool.Decides.{nat_tests}
use Rattle.outside.specs.declared.errands.Receipt.{Receipt}
use Rattle.outside.specs.declared.errands.Errand.{Errand}
use Rattle.save_core.specs.declared.values.Save.{Save}
use Rattle.save_core.specs.declared.values.Put.{Put}
use Rattle.save_core.specs.Saving.{Saving, opening, last_stored, is_ready_save, is_unmodified, needs_put, bound_to, left_over, begun, served, answered_put, ended, answered, answers, endings, is_for, final_with}
use Rattle.save_core.specs.Runs.{Event, Waited, Served, Answered, Kept, WaitedFinal, next, after_all, IsBoundTo, AreAcknowledged}

-- the save is bound to no put
abbrev pub IsFree : Save → Type 0
IsFree save = save.bound ≡ false

-- every bound save is bound to the put under way
abbrev pub AreBound : Saving → Type 0
AreBound s = AllByRecursion (IsBoundTo s.put) s.saves

all_more : {X : Type 0} (P : X → Type 0) (xs : List X) (x : X) → AllByRecursion P xs → P x → AllByRecursion P (xs ++ x ∷ [])
all_more P [] x a p = (p, tt)
all_more P (y ∷ xs) x a p = (a.0, all_more P xs x a.1 p)

up_to : (a b : ℕ) → nat_le a b ≡ true → a ≤ b
up_to a b is = grind (arith, nat_tests)

-- a save that isn't bound is bound to any put
free_is : (put : Option Put) (save : Save) → IsFree save → IsBoundTo put save
free_is None save free = free
free_is (Some put) save free = λ bound. absurd (cc)

-- the saves that are left when the bound ones went
freed : (saves : List Save) → AllByRecursion IsFree (filter (λ save. not save.bound) saves)
freed [] = tt
freed (save ∷ saves) =
    let rest = freed saves in
    let go : (b : Bool) → save.bound ≡ b → AllByRecursion IsFree (cond (not b) (save ∷ filter (λ (s : Save). not s.bound) saves) (filter (λ (s : Save). not s.bound) saves)) = elim [
      | true ↦ λ e. rest
      | false ↦ λ e. (e, rest)
    ] in
    go save.bound refl

-- a put of this number begins: the saves that were free are bound to it or free
begins : (put : Put) (last : ℕ) (saves : List Save) → AllByRecursion IsFree saves → AllByRecursion (IsBoundTo (Some put)) (left_over put.number last saves)
begins put last [] a = tt
begins put last (save ∷ saves) a =
    let rest = begins put last saves a.1 in
    let here : IsBoundTo (Some put) (bound_to put.number save) = λ bound. up_to save.mark put.number (subst (λ (b : Bool). (b || nat_le save.mark put.number) ≡ true) a.0 bound) in
    let go : (b : Bool) → AllByRecursion (IsBoundTo (Some put)) (map (bound_to put.number) (cond b (save ∷ filter (λ (s : Save). not (is_unmodified put.number last s)) saves) (filter (λ (s : Save). not (is_unmodified put.number last s)) saves))) = elim [
      | true ↦ (here, rest)
      | false ↦ rest
    ] in
    go (not (is_unmodified put.number last save))

-- where no save needs a put, the saves that are left stay free
idle : (applied last : ℕ) (saves : List Save) → AllByRecursion IsFree saves → find (needs_put applied last) saves ≡ None → AllByRecursion IsFree (left_over applied last saves)
idle applied last [] a none = tt
idle applied last (save ∷ saves) a none =
    let rest = idle applied last saves a.1 in
    let go : (b r m : Bool) → save.bound ≡ b → nat_le save.mark applied ≡ r → cond ((not b && r) && not m) (Some save) (find (needs_put applied last) saves) ≡ None → AllByRecursion IsFree (map (bound_to applied) (cond (not ((not b && r) && m)) (save ∷ filter (λ (s : Save). not (is_unmodified applied last s)) saves) (filter (λ (s : Save). not (is_unmodified applied last s)) saves))) = elim [
      | true ↦ λ r m e f h. absurd (cc)
      | false ↦ elim [
        | true ↦ elim [
          | true ↦ λ e f h. rest h
          | false ↦ λ e f h. absurd (cc)
        ]
        | false ↦ λ m e f h. (rw (e, f) refl, rest h)
      ]
    ] in
    go save.bound (nat_le save.mark applied) (save.skip && nat_eq last applied) refl refl none

-- a put begins only where none is under way
pub served_bound : (applied : ℕ) (file content : List ℕ) (s : Saving) → s.put ≡ None → AreBound s → AreBound (served applied file content s)
served_bound applied file content s none bound =
    let free : AllByRecursion IsFree s.saves = subst (λ (p : Option Put). AllByRecursion (IsBoundTo p) s.saves) none bound in
    let last = last_stored s in
    let begin : List ℕ → Errand = λ token. record { ticket = record { 0 = s.next_ticket }; file = file; token = token; content = content; number = applied } in
    let go : (o : Option Save) → find (needs_put applied last) s.saves ≡ o → AreBound (begun (option_map begin (option_map (λ (save : Save). save.token) o)) (record s { saves = left_over applied last s.saves })) = elim [
      | None ↦ λ e. subst (λ (p : Option Put). AllByRecursion (IsBoundTo p) (left_over applied last s.saves)) (sym none) (idle applied last s.saves free e)
      | Some first ↦ λ e. begins (record { ticket = record { 0 = s.next_ticket }; file = file; number = applied; content = content }) last s.saves free
    ] in
    go (find (needs_put applied last) s.saves) refl

pub answered_bound : (o : Option Put) (stored : Bool) (s : Saving) → AreBound s → AreBound (ended o stored s)
answered_bound None stored s bound = bound
answered_bound (Some put) stored s bound = freed s.saves

pub waits_bound : (put : Option Put) (saves : List Save) (save : Save) → IsFree save → AllByRecursion (IsBoundTo put) saves → AllByRecursion (IsBoundTo put) (saves ++ save ∷ [])
waits_bound put saves save free bound = all_more (IsBoundTo put) saves save bound (free_is put save free)

pub final_bound : (mark : ℕ) (o : Option (List ℕ)) (s : Saving) → AreBound s → AreBound (final_with mark o s)
final_bound mark None s bound = bound
final_bound mark (Some token) s bound =
    waits_bound s.put s.saves (record { view = None; mark = mark; skip = false; token = token; bound = false }) refl bound

step_bound : (event : Event) (s : Saving) → AreBound s → AreBound (next event s)
step_bound (Waited view mark skip token) s bound =
    waits_bound s.put s.saves (record { view = view; mark = mark; skip = skip; token = token; bound = false }) refl bound
step_bound (Served applied file content) s bound =
    let go : (p : Option Put) (any : Bool) → s.put ≡ p → AreBound (cond (is_none p && any) (served applied file content s) s) = elim [
      | None ↦ elim [
        | true ↦ λ e. served_bound applied file content s e bound
        | false ↦ λ e. bound
      ]
      | Some put ↦ λ any e. bound
    ] in
    go s.put (list_any (is_ready_save applied) s.saves) refl
step_bound (Answered ticket receipt) s bound = answered_bound (answered_put ticket receipt s.put) (is_some receipt) s bound
step_bound (Kept token) s bound = bound
step_bound (WaitedFinal mark) s bound = final_bound mark s.last_token s bound

run_bound : (events : List Event) (s : Saving) → AreBound s → AreBound (after_all events s)
run_bound [] s bound = bound
run_bound (event ∷ events) s bound = run_bound events (next event s) (step_bound event s bound)

-- the marks of the bound saves
pub marks : (put : Put) (saves : List Save) → AllByRecursion (IsBoundTo (Some put)) saves → AllByRecursion (λ save. save.mark ≤ put.number) (filter (λ save. save.bound) saves)
marks put [] a = tt
marks put (save ∷ saves) a =
    let rest = marks put saves a.1 in
    let go : (b : Bool) → save.bound ≡ b → AllByRecursion (λ (s : Save). s.mark ≤ put.number) (cond b (save ∷ filter (λ (s : Save). s.bound) saves) (filter (λ (s : Save). s.bound) saves)) = elim [
      | true ↦ λ e. (a.0 e, rest)
      | false ↦ λ e. rest
    ] in
    go save.bound refl

-- an answer for a put is for that under way
pub under_way : (ticket : ℕ) (receipt : Option Receipt) (o : Option Put) (put : Put) → answered_put ticket receipt o ≡ Some put → o ≡ Some put
under_way ticket receipt None put is = absurd (cc)
under_way ticket receipt (Some other) put is =
    let go : (b : Bool) → cond b (Some other) None ≡ Some put → Some other ≡ Some put = elim [
      | true ↦ λ h. h
      | false ↦ λ h. absurd (cc)
    ] in
    go (nat_eq other.ticket.0 ticket && is_for other.file other.content receipt) is

any_last : (n : ℕ) (ns : List ℕ) → list_any (nat_eq n) (ns ++ n ∷ []) ≡ true
any_last n [] = search rules
any_last n (m ∷ ns) = rw (any_last n ns) (search rules)

pub acknowledged : (events : List Event) (ticket : ℕ) (receipt : Receipt) (put : Put) → answered_put ticket (Some receipt) (after_all events opening).put ≡ Some put → AreAcknowledged (after_all events opening) put (answers ticket (Some receipt) (after_all events opening)) (answered ticket (Some receipt) (after_all events opening))
acknowledged events ticket receipt put is =
    let s = after_all events opening in
    let bound : AreBound s = run_bound events opening tt in
    record {
      marks = marks put s.saves (subst (λ (p : Option Put). AllByRecursion (IsBoundTo p) s.saves) (under_way ticket (Some receipt) s.put put is) bound);
      answers = ap (λ (o : Option Put). endings o true s.saves) is;
      stored = ap (λ (o : Option Put). list_any (nat_eq put.number) (ended o true s).stored) is ∙ any_last put.number s.stored;
    }
