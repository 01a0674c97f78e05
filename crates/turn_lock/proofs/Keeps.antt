-- Each kind of step keeps the rule of the lock.
use Rattle.std.proofs.Common.{◌≡◌, ℕ, zero, suc, ◌+◌, ◌≤◌, ◌≢◌, ◌⊎◌, true, false, None, Some, List}
use Rattle.std.proofs.Common.{[], ◌∷◌, ◌++◌, length, set, eqb, refl, sym, ap, subst, ◌∙◌, inl, inr}
use Rattle.std.proofs.Common.{⊎_elim, arith}
use Rattle.std.specs.List.{slice_index}
use mathlib.Core.Option.{none, some, some-injective, some-ne-none}
use mathlib.Core.Option as maybe
use Rattle.std.specs.Prelude.{Option}
use lib.ListN.{get_elem?}
use mathlib.Core.Logic.{dite}
use native.Mathlib.Decide.{ℕ_discrete}
use Rattle.std.proofs.Common.{length-append}
use prog.Atomic.{either}
use Rattle.atomic_table.specs.Table.{State, Me, Act, keeps, takes, gives, Valid, Allows, Splits}
use Rattle.atomic_table.specs.Table.{Joins, stepped, carried_after, opening}
use Rattle.atomic_table.proofs.Lists.{at_set, at_snoc, at_longer, set_again, set_else}
use Rattle.turn_lock.specs.declared.view.View.{View}
use Rattle.turn_lock.specs.Lists.{IsPrefix, longer, total, times}
use Rattle.atomic_table.specs.Seated.{TableId}
use Rattle.turn_lock.specs.Seats.{StaysOrAdds, own_after, after_turn}
use Rattle.turn_lock.specs.Turns.{IsIdle, known, Homes, Seated, Kept, Takes, Publishes, GivesBack}
use Rattle.turn_lock.specs.Turns.{Looks, Settles, took, published, given, looked, copy_of, merged}
use Rattle.turn_lock.specs.Turns.{settled_view, spent, first_view}
use Rattle.turn_lock.proofs.Growing.{prefix_self, prefix_nil, prefix_of, prefix_grows}
use Rattle.turn_lock.proofs.Growing.{prefix_length, longer_first, longer_second, longer_within}
use Rattle.turn_lock.proofs.Growing.{total_set, total_at, total_none, total_append, set_there}
use Rattle.turn_lock.proofs.Growing.{times_append, times_self, times_other, own_stays, own_grows}

-- where one view was set, a fact of each view holds: of the others by what held before, and of the
-- one set by what is shown of it
pub reseat : {V : Type 0} (P Q : ℕ → V → Type 0) (views : List V) (id : ℕ) (w : V)
    → ((p : ℕ) (v : V) → get_elem? views p ≡ some v → P p v)
    → ((p : ℕ) (v : V) → p ≢ id → P p v → Q p v) → Q id w
    → (p : ℕ) (v : V) → get_elem? (set views id w) p ≡ some v → Q p v
reseat P Q views id w all other here p v at =
    ⊎_elim (λ (t : (p ≡ id) × (w ≡ v)). subst (λ u. Q p u) t.1 (subst (λ q. Q q w) (sym t.0) here))
    (λ (t : (p ≢ id) × (get_elem? views p ≡ some v)). other p v t.0 (all p v t.1))
    (at_set views id p w v at)

abbrev value_or : {T : Type 0} → T → Option T → T
value_or d None = d
value_or d (Some x) = x

-- the value in the slot that a seat has
abbrev slot_value : {T : Type 0} → T → List (ℕ × Option T) → T
slot_value d [] = d
slot_value d (c ∷ cs) = value_or d c.1

module _ {T E G : Type 0} (footing_of : T → G) (book_of : T → List E) where
  -- the sum over all views of how often a place is their own
  abbrev owned : ℕ → List (View E G) → ℕ
  owned p views = total (λ (v : View E G). times p v.own) views

  owned_set : (p : ℕ) (views : List (View E G)) (id : ℕ) (v w : View E G)
      → get_elem? views id ≡ some v
      → owned p (set views id w) + times p v.own ≡ owned p views + times p w.own
  owned_set p views id v w at = total_set (λ (v : View E G). times p v.own) views id v w at

  -- the keeper's view is not that of a seat without the turn
  keeper_stays : (views : List (View E G)) (id keeper : ℕ) (v w u : View E G)
      → get_elem? views id ≡ some v → v.holds ≡ false → get_elem? views keeper ≡ some u
      → u.holds ≡ true → get_elem? (set views id w) keeper ≡ some u
  keeper_stays views id keeper v w u at free there held =
      set_else views id keeper w
      (λ (e : keeper ≡ id). let same : v
      ≡ u = some-injective v u
      (sym at ∙ ap (λ i. get_elem? views i) (sym e) ∙ there) in let f : v.holds
      ≡ u.holds = ap (λ (x : View E G). x.holds) same in absurd (cc)) ∙ there

  -- a seat without the turn gets a view that fits, and no place comes into two views
  quiet : (words : List ℕ) (homes : List (maybe.Option (Option T))) (views : List (View E G))
      (id : ℕ) (v w : View E G)
      → (k : Kept footing_of book_of record { words = words; homes = homes; views = views })
      → get_elem? views id ≡ some v → v.holds ≡ false
      → Seated footing_of book_of k.turn k.log k.footing k.keeper id w
      → ((p : ℕ) → owned p (set views id w) ≤ 1)
      → Kept footing_of book_of record { words = words; homes = homes; views = set views id w }
  quiet words homes views id v w k at free here once = record {
    turn = k.turn;
    log = k.log;
    footing = k.footing;
    keeper = k.keeper;
    words = k.words;
    homes = k.homes;
    seated = reseat (Seated footing_of book_of k.turn k.log k.footing k.keeper)
        (Seated footing_of book_of k.turn k.log k.footing k.keeper) views id w k.seated
        (λ p u n s. s) here;
    held = ⊎_elim (λ (e : k.turn ≡ 0). inl e)
        (λ (t : (u : View E G) × (get_elem? views k.keeper ≡ some u) × (u.holds ≡ true)). inr
        (t.0, keeper_stays views id k.keeper v w t.0 at free t.1 t.2, t.2)) k.held;
    once = once;
  }

  -- what a step owes, with the words, the homes and the views apart
  abbrev Steps : (ℕ → ℕ) → ℕ → ℕ → Me (Option T) (View E G)
      → (ℕ → Me (Option T) (View E G) → Type 0) → List ℕ → List (maybe.Option (Option T))
      → List (View E G) → Type 0
  Steps f i id me then ws hs views = (w : View E G) × (a : Act (Option T)) × Valid hs me.1 a
      × Kept footing_of book_of
      (stepped (record { words = ws; homes = hs; views = views }) i
      (f (slice_index ws i)) id me.1 w a) × then (slice_index ws i) (w, carried_after me.1 a)

  at_parts : (f : ℕ → ℕ) (i id : ℕ) (me : Me (Option T) (View E G))
      (then : ℕ → Me (Option T) (View E G) → Type 0) (s : State (Option T) (View E G))
      (ws : List ℕ) (hs : List (maybe.Option (Option T)))
      → s.words ≡ ws → s.homes ≡ hs → Steps f i id me then ws hs s.views
      → Steps f i id me then s.words s.homes s.views
  at_parts f i id me then s ws hs e d p = subst (λ h. Steps f i id me then s.words h s.views)
      (sym d) (subst (λ w. Steps f i id me then w hs s.views) (sym e) p)

  grounded : (turn : ℕ) (log : List E) (footing g : G) (keeper p : ℕ) (v : View E G)
      → Seated footing_of book_of turn log footing keeper p v → v.footing ≡ Some g → footing ≡ g
  grounded turn log footing g keeper p v s e =
      ⊎_elim (λ (n : v.footing ≡ None). absurd (cc))
      (λ (m : v.footing ≡ Some footing). (cc)) s.ground_is

  take_home : (id : ℕ) (me : Me (Option T) (View E G)) (views : List (View E G)) (turn keeper : ℕ)
      (log : List E) (footing : G) (x : T) → IsIdle me → turn ≡ 0 → book_of x ≡ log
      → footing_of x ≡ footing
      → ((p : ℕ) (v : View E G) → get_elem? views p ≡ some v
      → Seated footing_of book_of turn log footing keeper p v) → ((p : ℕ) → owned p views ≤ 1)
      → get_elem? views id ≡ some me.0
      → Steps (λ n. either (eqb n 0) 1 n) 0 id me (λ n w. Takes footing_of book_of me n w)
      (0 ∷ length log ∷ []) (some (Some x) ∷ []) views
  take_home id me views turn keeper log footing x idle t b f seated once at =
      let here : Seated footing_of book_of turn log footing keeper id me.0 = seated id me.0 at in
      let w : View E G = took me.0 (book_of x) in
      let seen : IsPrefix me.0.seen (book_of x) = subst (λ l. IsPrefix me.0.seen l)
      (sym b) here.seen in (
        w,
        takes 0 (Some x),
        refl,
        record {
          turn = 1;
          log = log;
          footing = footing;
          keeper = id;
          words = refl;
          homes = inr (refl, refl);
          seated = reseat (Seated footing_of book_of turn log footing keeper)
              (Seated footing_of book_of 1 log footing id) views id w seated
              (λ p u n s. record {
                ground_is = s.ground_is;
                seen = s.seen;
                told = s.told;
                noted =
                    s.noted;
                places = s.places;
                holder = λ h. let a : turn
                    ≡ 1 = (s.holder h).0 in absurd (omega arith);
              })
              (record {
                ground_is = here.ground_is;
                seen = prefix_of (book_of x) log (sym b);
                told = here.told;
                noted = here.noted;
                places = λ n h m. here.places n
                    (let l = prefix_length me.0.seen (book_of x) seen in omega arith) m;
                holder = λ h. (refl, refl, b);
              });
          held = inr (w, set_there views id me.0 w at, refl);
          once = λ p. let a = owned_set p views id me.0 w at in let o = once p in omega arith;
        },
        inl (
          refl,
          (
            x,
            ap (λ (c : List (ℕ × Option T)). (w, (0, Some x) ∷ c)) idle.no_slot,
            (let g = idle.grounded in let s : footing
                ≡ g.0 = grounded turn log footing g.0 keeper id me.0 here g.1 in let e :
                me.0.footing ≡ Some g.0 = g.1 in (cc)),
            seen,
          ),
        ),
      )

  take_out : (id : ℕ) (me : Me (Option T) (View E G)) (views : List (View E G)) (turn keeper : ℕ)
      (log : List E) (footing : G) → turn ≡ 1
      → ((p : ℕ) (v : View E G) → get_elem? views p ≡ some v
      → Seated footing_of book_of turn log footing keeper p v)
      → ((turn ≡ 0) ⊎ ((v : View E G) × (get_elem? views keeper ≡ some v) × (v.holds ≡ true)))
      → ((p : ℕ) → owned p views ≤ 1) → get_elem? views id ≡ some me.0
      → Steps (λ n. either (eqb n 0) 1 n) 0 id me (λ n w. Takes footing_of book_of me n w)
      (1 ∷ length log ∷ []) (none ∷ []) views
  take_out id me views turn keeper log footing t seated held once at = (
    me.0,
    keeps,
    tt,
    subst (λ vs. Kept footing_of book_of record {
      words = 1 ∷ length log ∷ [];
      homes = none ∷ [];
      views = vs;
    }) (sym (set_again views id me.0 at))
        (record {
          turn = turn;
          log = log;
          footing = footing;
          keeper = keeper;
          words = ap
              (λ n. n ∷ length log ∷ []) (sym t);
          homes = inr
              (t, refl);
          seated = seated;
          held = held;
          once = once;
        }),
    inr ((λ e. omega arith), refl),
  )

  pub take_keeps : (slots id : ℕ) (me : Me (Option T) (View E G)) → IsIdle me
      → Allows (Kept footing_of book_of) slots id me 0 (λ n. either (eqb n 0) 1 n)
      (λ n w. Takes footing_of book_of me n w)
  take_keeps slots id me idle s k len at small = ⊎_elim
      (λ (h : (k.turn ≡ 0)
      × ((x : T) × (s.homes ≡ some (Some x) ∷ []) × (book_of x ≡ k.log)
      × (footing_of x ≡ k.footing))).
      at_parts (λ n. either (eqb n 0) 1 n) 0 id me (λ n w. Takes footing_of book_of me n w) s
      (0 ∷ length k.log ∷ []) (some (Some h.1.0) ∷ [])
      (k.words ∙ ap (λ n. n ∷ length k.log ∷ []) h.0) h.1.1
      (take_home id me s.views k.turn k.keeper k.log k.footing h.1.0 idle h.0 h.1.2 h.1.3 k.seated
      k.once at))
      (λ (h : (k.turn ≡ 1) × (s.homes ≡ none ∷ [])).
      at_parts (λ n. either (eqb n 0) 1 n) 0 id me (λ n w. Takes footing_of book_of me n w) s
      (1 ∷ length k.log ∷ []) (none ∷ []) (k.words ∙ ap (λ n. n ∷ length k.log ∷ []) h.0) h.1
      (take_out id me s.views k.turn k.keeper k.log k.footing h.0 k.seated k.held k.once at))
      k.homes

  -- the list that a turn leaves, where it added an entry at n, keeps each place apart
  own_places : (own : List ℕ) (xs ys : List E) → StaysOrAdds xs ys
      → ((n : ℕ) → length xs ≤ n → times n own ≡ 0) → (n : ℕ) → length ys ≤ n
      → times n (own_after own (length xs) (length ys)) ≡ 0
  own_places own xs ys (inl e) none_beyond n h =
      let l : length ys ≡ length xs = ap length e in
      ap (times n) (own_stays own (length xs) (length ys) l) ∙ none_beyond n (omega arith)
  own_places own xs ys (inr t) none_beyond n h =
      let l : length ys ≡ length xs + 1 = ap length t.1 ∙ length-append xs (t.0 ∷ []) in
      let a : times n (own ++ length xs ∷ [])
      ≡ times n own + times n (length xs ∷ []) = times_append n own (length xs ∷ []) in
      let b : times n (length xs ∷ []) ≡ 0 = times_other n (length xs) (λ e. omega arith) in
      let c : times n own ≡ 0 = none_beyond n (omega arith) in
      ap (times n) (own_grows own (length xs) (length ys) (omega arith)) ∙ a ∙ omega arith

  own_once : (own : List ℕ) (xs ys : List E) (p before after : ℕ) → StaysOrAdds xs ys
      → (p ≡ length xs → before ≡ 0) → before ≤ 1
      → after + times p own ≡ before + times p (own_after own (length xs) (length ys)) → after ≤ 1
  own_once own xs ys p before after (inl e) fresh once sum =
      let l : length ys ≡ length xs = ap length e in
      let a : times p (own_after own (length xs) (length ys))
      ≡ times p own = ap (times p) (own_stays own (length xs) (length ys) l) in omega arith
  own_once own xs ys p before after (inr t) fresh once sum =
      let l : length ys ≡ length xs + 1 = ap length t.1 ∙ length-append xs (t.0 ∷ []) in
      let a : times p (own_after own (length xs) (length ys))
      ≡ times p own + times p (length xs ∷ []) = ap (times p)
      (own_grows own (length xs) (length ys) (omega arith))
      ∙ times_append p own (length xs ∷ []) in
      dite (ℕ_discrete p (length xs))
      (λ (e : p ≡ length xs). let b : before ≡ 0 = fresh e in let c : times p (length xs ∷ [])
      ≡ 1 = ap (λ n. times p (n ∷ [])) (sym e) ∙ times_self p in omega arith)
      (λ (ne : ¬ (p ≡ length xs)). let c : times p (length xs ∷ [])
      ≡ 0 = times_other p (length xs) (λ e. ne (sym e)) in omega arith)

  publish_out : (id count : ℕ) (v : View E G) (x : T) (views : List (View E G)) (turn keeper : ℕ)
      (log : List E) (footing : G)
      → v.holds ≡ true → StaysOrAdds v.seen (book_of x) → count ≡ length (book_of x)
      → ((p : ℕ) (v : View E G) → get_elem? views p ≡ some v
      → Seated footing_of book_of turn log footing keeper p v) → ((p : ℕ) → owned p views ≤ 1)
      → get_elem? views id ≡ some v
      → Steps (λ _. count) 1 id (v, (0, Some x) ∷ [])
      (λ n w. Publishes footing_of book_of (v, (0, Some x) ∷ []) n w) (1 ∷ length log ∷ [])
      (none ∷ []) views
  publish_out id count v x views turn keeper log footing holds grows len seated once at =
      let here : Seated footing_of book_of turn log footing keeper id v = seated id v at in
      let mine = here.holder holds in
      let more : StaysOrAdds log (book_of x) = subst
      (λ l. StaysOrAdds l (book_of x)) mine.2 grows in
      let longer_now : length log ≤ length (book_of x) = prefix_length log (book_of x)
      (prefix_grows log log (book_of x) (prefix_self log) more) in
      let w : View E G = published v (book_of x) in
      let same_length : length v.seen ≡ length log = ap length mine.2 in (
        w,
        keeps,
        tt,
        record {
          turn = 1;
          log = book_of x;
          footing = footing;
          keeper = keeper;
          words = ap (λ n. 1 ∷ n ∷ []) len;
          homes = inr (refl, refl);
          seated = reseat (Seated footing_of book_of turn log footing keeper)
              (Seated footing_of book_of 1 (book_of x) footing keeper) views id w seated
              (λ p u n s. record {
                ground_is = s.ground_is;
                seen = prefix_grows u.seen log (book_of x) s.seen more;
                told = prefix_grows u.told log (book_of x) s.told more;
                noted = (let a = s.noted in omega arith);
                places = s.places;
                holder = λ h. let a : p ≡ keeper = (s.holder h).1 in let b : id
                    ≡ keeper = mine.1 in absurd (n (a ∙ sym b));
              })
              (record {
                ground_is = here.ground_is;
                seen = prefix_self (book_of x);
                told = prefix_grows v.told log (book_of x) here.told more;
                noted = (let a = here.noted in omega arith);
                places = λ n h m. own_places v.own v.seen (book_of x) grows
                    (λ q o. here.places q o
                    (let t = prefix_length v.told log here.told in omega arith)) n h;
                holder = λ h. (refl, mine.1, refl);
              });
          held = inr (
            w,
            subst (λ i. get_elem? (set views id w) i ≡ some w) mine.1
                (set_there views id v w at),
            holds,
          );
          once = λ p. own_once v.own v.seen (book_of x) p (owned p views)
              (owned p (set views id w)) grows
              (λ e. total_none (λ (u : View E G). times p u.own) views
              (λ q u there. let s = seated q u there in s.places p
              (let a = prefix_length u.seen log s.seen in omega arith)
              (let a = prefix_length u.told log s.told in omega arith)))
              (once p) (owned_set p views id v w at);
        },
        (λ y e. let g : x ≡ y = ap (slot_value x) e in ap
            (λ (z : T). (published v (book_of z), (0, Some x) ∷ [])) g),
      )

  out_of_home : (turn keeper id : ℕ) (log : List E) (footing : G) (s : State (Option T) (View E G))
      (v : View E G) → Seated footing_of book_of turn log footing keeper id v → v.holds ≡ true
      → Homes footing_of book_of turn log footing s → s.homes ≡ none ∷ []
  out_of_home turn keeper id log footing s v here holds (inl h) = let a : turn
      ≡ 1 = (here.holder holds).0 in let b : turn ≡ 0 = h.0 in absurd (omega arith)
  out_of_home turn keeper id log footing s v here holds (inr h) = h.1

  publish_at : (slots id count : ℕ) (v : View E G) (x : T) → v.holds ≡ true
      → StaysOrAdds v.seen (book_of x) → count ≡ length (book_of x)
      → Allows (Kept footing_of book_of) slots id (v, (0, Some x) ∷ []) 1 (λ _. count)
      (λ n w. Publishes footing_of book_of (v, (0, Some x) ∷ []) n w)
  publish_at slots id count v x holds grows len s k size at small =
      let here = k.seated id v at in
      at_parts (λ _. count) 1 id (v, (0, Some x) ∷ [])
      (λ n w. Publishes footing_of book_of (v, (0, Some x) ∷ []) n w) s (1 ∷ length k.log ∷ [])
      (none ∷ []) (k.words ∙ ap (λ n. n ∷ length k.log ∷ []) (here.holder holds).0)
      (out_of_home k.turn k.keeper id k.log k.footing s v here holds k.homes)
      (publish_out id count v x s.views k.turn k.keeper k.log k.footing holds grows len k.seated
      k.once at)

  pub publish_keeps : (slots id count : ℕ) (me : Me (Option T) (View E G)) (x : T)
      → me.1 ≡ (0, Some x) ∷ [] → me.0.holds ≡ true → StaysOrAdds me.0.seen (book_of x)
      → count ≡ length (book_of x)
      → Allows (Kept footing_of book_of) slots id me 1 (λ _. count)
      (λ n w. Publishes footing_of book_of me n w)
  publish_keeps slots id count me x e holds grows len =
      subst (λ c. Allows (Kept footing_of book_of) slots id (me.0, c) 1 (λ _. count)
      (λ n w. Publishes footing_of book_of (me.0, c) n w)) (sym e)
      (publish_at slots id count me.0 x holds grows len)

  give_out : (id : ℕ) (v : View E G) (x : T) (views : List (View E G)) (turn keeper : ℕ)
      (log : List E) (footing : G)
      → v.holds ≡ true → v.seen ≡ book_of x → v.footing ≡ Some (footing_of x)
      → ((p : ℕ) (v : View E G) → get_elem? views p ≡ some v
      → Seated footing_of book_of turn log footing keeper p v) → ((p : ℕ) → owned p views ≤ 1)
      → get_elem? views id ≡ some v
      → Steps (λ _. 0) 0 id (v, (0, Some x) ∷ [])
      (λ n w. GivesBack footing_of book_of (v, (0, Some x) ∷ []) n w) (1 ∷ length log ∷ [])
      (none ∷ []) views
  give_out id v x views turn keeper log footing holds same ground_is seated once at =
      let here : Seated footing_of book_of turn log footing keeper id v = seated id v at in
      let mine = here.holder holds in
      let w : View E G = given v in (
        w,
        gives,
        tt,
        record {
          turn = 0;
          log = log;
          footing = footing;
          keeper = keeper;
          words = refl;
          homes = inl (
            refl,
            (
              x,
              refl,
              sym same
                  ∙ mine.2,
              sym (grounded turn log footing (footing_of x) keeper id v here ground_is),
            ),
          );
          seated = reseat (Seated footing_of book_of turn log footing keeper)
              (Seated footing_of book_of 0 log footing keeper) views id w seated
              (λ p u n s. record {
                ground_is = s.ground_is;
                seen = s.seen;
                told = s.told;
                noted =
                    s.noted;
                places = s.places;
                holder = λ h. absurd
                    (n ((s.holder h).1 ∙ sym mine.1));
              })
              (record {
                ground_is = here.ground_is;
                seen = here.seen;
                told = here.told;
                noted =
                    here.noted;
                places = here.places;
                holder = λ h. absurd (cc);
              });
          held = inl refl;
          once = λ p. let a = owned_set p views id v w at in let o = once p in omega arith;
        },
        refl,
      )

  give_at : (slots id : ℕ) (v : View E G) (x : T) → v.holds ≡ true → v.seen ≡ book_of x
      → v.footing ≡ Some (footing_of x)
      → Allows (Kept footing_of book_of) slots id (v, (0, Some x) ∷ []) 0 (λ _. 0)
      (λ n w. GivesBack footing_of book_of (v, (0, Some x) ∷ []) n w)
  give_at slots id v x holds same ground_is s k size at small =
      let here = k.seated id v at in
      at_parts (λ _. 0) 0 id (v, (0, Some x) ∷ [])
      (λ n w. GivesBack footing_of book_of (v, (0, Some x) ∷ []) n w) s (1 ∷ length k.log ∷ [])
      (none ∷ []) (k.words ∙ ap (λ n. n ∷ length k.log ∷ []) (here.holder holds).0)
      (out_of_home k.turn k.keeper id k.log k.footing s v here holds k.homes)
      (give_out id v x s.views k.turn k.keeper k.log k.footing holds same ground_is k.seated k.once
      at)

  pub give_keeps : (slots id : ℕ) (me : Me (Option T) (View E G)) (x : T) → me.1 ≡ (0, Some x) ∷ []
      → me.0.holds ≡ true → me.0.seen ≡ book_of x → me.0.footing ≡ Some (footing_of x)
      → Allows (Kept footing_of book_of) slots id me 0 (λ _. 0)
      (λ n w. GivesBack footing_of book_of me n w)
  give_keeps slots id me x e holds same ground_is =
      subst (λ c. Allows (Kept footing_of book_of) slots id (me.0, c) 0 (λ _. 0)
      (λ n w. GivesBack footing_of book_of (me.0, c) n w)) (sym e)
      (give_at slots id me.0 x holds same ground_is)

  -- a load of word 1 by a seat without the turn, which sees the length of the one list
  load_keeps : (id : ℕ) (me : Me (Option T) (View E G)) (w : View E G)
      (then : ℕ → Me (Option T) (View E G) → Type 0) (s : State (Option T) (View E G))
      (k : Kept footing_of book_of s)
      → get_elem? s.views id ≡ some me.0 → me.0.holds ≡ false
      → Seated footing_of book_of k.turn k.log k.footing k.keeper id w
      → ((p : ℕ) → times p w.own ≡ times p me.0.own) → then (length k.log) (w, me.1)
      → Steps (λ n. n) 1 id me then s.words s.homes s.views
  load_keeps id me w then s k at free here same says =
      let set_words : set s.words 1 (slice_index s.words 1)
      ≡ s.words = subst (λ ws. set ws 1 (slice_index ws 1) ≡ ws) (sym k.words) refl in (
        w,
        keeps,
        tt,
        subst (λ ws. Kept footing_of book_of record {
          words = ws;
          homes = s.homes;
          views = set
              s.views id w;
        }) (sym set_words)
            (quiet s.words s.homes s.views id me.0 w k at free here
            (λ p. let a = owned_set p s.views id me.0 w at in let o = k.once p in let e = same p
            in omega arith)),
        subst (λ n. then n (w, me.1)) (sym (ap (λ ws. slice_index ws 1) k.words)) says,
      )

  pub look_keeps : (slots id : ℕ) (me : Me (Option T) (View E G)) → me.0.holds ≡ false
      → Allows (Kept footing_of book_of) slots id me 1 (λ n. n)
      (λ n w. Looks footing_of book_of me n w)
  look_keeps slots id me free s k size at small =
      let here = k.seated id me.0 at in
      load_keeps id me (looked me.0 (length k.log))
      (λ n w. Looks footing_of book_of me n w) s k at free
      (record {
        ground_is = here.ground_is;
        seen = here.seen;
        told = here.told;
        noted =
            (let a : length k.log ≤ length k.log = omega arith in a);
        places = here.places;
        holder =
            here.holder;
      })
      (λ p. refl) (refl, prefix_length me.0.seen k.log here.seen, here.noted)

  pub settle_keeps : (slots id : ℕ) (me : Me (Option T) (View E G)) → me.0.holds ≡ false
      → Allows (Kept footing_of book_of) slots id me 1 (λ n. n)
      (λ n w. Settles footing_of book_of me n w)
  settle_keeps slots id me free s k size at small =
      let here = k.seated id me.0 at in
      let first = longer_first me.0.seen me.0.told k.log here.seen here.told in
      let second = longer_second me.0.seen me.0.told k.log here.seen here.told in
      load_keeps id me (settled_view me.0) (λ n w. Settles footing_of book_of me n w) s k at free
      (record {
        ground_is = here.ground_is;
        seen = longer_within me.0.seen me.0.told k.log here.seen here.told;
        told = prefix_nil k.log;
        noted = here.noted;
        places = λ n h m. here.places n
            (let a = prefix_length me.0.seen (longer me.0.seen me.0.told) first in omega arith)
            (let a = prefix_length me.0.told (longer me.0.seen me.0.told) second in omega arith);
        holder = λ h. let f : me.0.holds ≡ false = free in absurd (cc);
      })
      (λ p. refl) (
        refl,
        first,
        second,
        (λ p. let a = total_at
            (λ (u : View E G). times p u.own) s.views id me.0 at in let o = k.once p in omega arith),
      )

  pub split_keeps : (id : ℕ) (v : View E G) → v.holds ≡ false
      → Splits (Kept footing_of book_of) id v v (copy_of v)
  split_keeps id v free s k at =
      subst (λ vs. Kept footing_of book_of record {
        words = s.words;
        homes = s.homes;
        views = vs
            ++ copy_of v ∷ [];
      }) (sym (set_again s.views id v at))
      (record {
        turn = k.turn;
        log = k.log;
        footing = k.footing;
        keeper = k.keeper;
        words = k.words;
        homes = k.homes;
        seated = λ p u there. ⊎_elim (λ (old : get_elem? s.views p ≡ some u). k.seated p u old)
            (λ (new : copy_of v ≡ u). subst
            (λ (z : View E G). Seated footing_of book_of k.turn k.log k.footing k.keeper p z)
            new
            (let s : Seated footing_of book_of k.turn k.log k.footing k.keeper id v = k.seated id v
            at in
            record {
              ground_is = s.ground_is;
              seen = s.seen;
              told = s.told;
              noted = s.noted;
              places
                  = λ n h m. refl;
              holder = λ h. absurd (cc);
            }))
            (at_snoc s.views (copy_of v) u p there);
        held = ⊎_elim (λ (e : k.turn ≡ 0). inl e)
            (λ (t : (u : View E G) × (get_elem? s.views k.keeper ≡ some u) × (u.holds ≡ true)). inr
            (t.0, at_longer s.views (copy_of v ∷ []) k.keeper t.0 t.1, t.2)) k.held;
        once = λ p. let a = total_append (λ (u : View E G). times p u.own) s.views
            (copy_of v ∷ []) in let o = k.once p in omega arith;
      })

  pub join_keeps : (id other : ℕ) (v w : View E G) → v.holds ≡ false → w.holds ≡ false
      → v.told ≡ [] → w.told ≡ [] → Joins (Kept footing_of book_of) id v other w (merged v w) spent
  join_keeps id other v w free free' told told' s k at apart there =
      let before : get_elem? s.views other
      ≡ some w = sym (set_else s.views id other (merged v w) apart) ∙ there in
      let mine = k.seated id v at in let theirs = k.seated other w before in
      let Fits : ℕ → View E G
      → Type 0 = Seated footing_of book_of k.turn k.log k.footing k.keeper in
      let first : (p : ℕ) (u : View E G) → get_elem? (set s.views id (merged v w)) p ≡ some u
      → Fits p u = reseat Fits Fits s.views id (merged v w) k.seated (λ p u n s. s)
      (record {
        ground_is = mine.ground_is;
        seen = mine.seen;
        told = theirs.seen;
        noted = (let a = mine.noted in let b = theirs.noted in omega arith);
        places = λ n h m. let a : times n (v.own ++ w.own)
            ≡ times n v.own + times n w.own = times_append n v.own w.own in
            let b : times n v.own
            ≡ 0 = mine.places n h (let l : length v.told ≡ 0 = ap length told in omega arith) in
            let c : times n w.own
            ≡ 0 = theirs.places n m
            (let l : length w.told ≡ 0 = ap length told' in omega arith) in omega arith;
        holder = λ h. absurd (cc);
      }) in
      record {
        turn = k.turn;
        log = k.log;
        footing = k.footing;
        keeper = k.keeper;
        words = k.words;
        homes = k.homes;
        seated = reseat Fits Fits (set s.views id (merged v w)) other spent first (λ p u n s. s)
            (record {
              ground_is = inl refl;
              seen = prefix_nil k.log;
              told = prefix_nil k.log;
              noted
                  = omega arith;
              places = λ n h m. refl;
              holder = λ h. absurd (cc);
            });
        held = ⊎_elim (λ (e : k.turn ≡ 0). inl e)
            (λ (t : (u : View E G) × (get_elem? s.views k.keeper ≡ some u) × (u.holds ≡ true)).
            inr (
              t.0,
              keeper_stays
                  (set s.views id (merged v w)) other k.keeper w spent t.0 there free'
                  (keeper_stays s.views id k.keeper v
                  (merged v w) t.0 at free t.1 t.2) t.2,
              t.2,
            )) k.held;
        once = λ p. let a = owned_set p s.views id v (merged v w) at in
            let b = owned_set p (set s.views id (merged v w)) other w spent there in
            let c : times p (v.own ++ w.own)
            ≡ times p v.own + times p w.own = times_append p v.own w.own in
            let o = k.once p in omega arith;
      }

  first_seated : (x : T) (p : ℕ) (v : View E G)
      → get_elem? (first_view (footing_of x) (book_of x) ∷ []) p ≡ some v
      → Seated footing_of book_of 0 (book_of x) (footing_of x) 0 p v
  first_seated x zero v there = subst
      (λ (u : View E G). Seated footing_of book_of 0 (book_of x) (footing_of x) 0 0 u)
      (some-injective (first_view (footing_of x) (book_of x)) v there)
      (record {
        ground_is = inr refl;
        seen = prefix_self (book_of x);
        told = prefix_nil
            (book_of x);
        noted = omega arith;
        places = λ n h m. refl;
        holder = λ h. absurd (cc);
      })
  first_seated x (suc p) v there = absurd (some-ne-none v (sym there))

  pub opens : (count : ℕ) (x : T) → count ≡ length (book_of x)
      → Kept footing_of book_of
      (opening (0 ∷ count ∷ []) (Some x ∷ []) (first_view (footing_of x) (book_of x)))
  opens count x len = record {
    turn = 0;
    log = book_of x;
    footing = footing_of x;
    keeper = 0;
    words = ap (λ n. 0 ∷ n ∷ []) len;
    homes = inl (refl, (x, refl, refl, refl));
    seated = first_seated x;
    held = inl refl;
    once = λ p. omega arith;
  }

  -- what the seat took out is the value whose list it took over
  pub met : (v : View E G) (m : Me (Option T) (View E G)) (x : T)
      → ((y : T) × (m ≡ (took v (book_of y), (0, Some y) ∷ [])) × (v.footing ≡ Some (footing_of y))
      × IsPrefix v.seen (book_of y)) → m.1 ≡ (0, Some x) ∷ []
      → (m.0 ≡ took v (book_of x)) × (v.footing ≡ Some (footing_of x)) × IsPrefix v.seen (book_of x)
  met v m x t o =
      let e : t.0 ≡ x = ap (slot_value x)
      (sym (ap (λ (q : Me (Option T) (View E G)). q.1) t.1) ∙ o) in
      subst (λ z. (m.0 ≡ took v (book_of z)) × (v.footing ≡ Some (footing_of z))
      × IsPrefix v.seen (book_of z)) e
      (ap (λ (q : Me (Option T) (View E G)). q.0) t.1, t.2, t.3)

  pub turned_ground : (v : View E G) (m n : Me (Option T) (View E G)) (x y : T)
      → m.0 ≡ took v (book_of x) → v.footing ≡ Some (footing_of x) → n ≡ (m.0, (0, None) ∷ [])
      → footing_of y ≡ footing_of x → n.0.footing ≡ Some (footing_of y)
  turned_ground v m n x y a b c d = ap (λ (q : Me (Option T) (View E G)). q.0.footing) c
      ∙ ap (λ (u : View E G). u.footing) a ∙ b ∙ ap Some (sym d)

  pub turned_grows : (v : View E G) (m n : Me (Option T) (View E G)) (x y : T)
      → m.0 ≡ took v (book_of x) → n ≡ (m.0, (0, None) ∷ []) → StaysOrAdds (book_of x) (book_of y)
      → StaysOrAdds n.0.seen (book_of y)
  turned_grows v m n x y a c s = subst (λ l. StaysOrAdds l (book_of y))
      (sym (ap (λ (q : Me (Option T) (View E G)). q.0.seen) c ∙ ap (λ (u : View E G). u.seen) a)) s

  pub turned_view : (z z' : TableId) (v : View E G) (m n q : Me (Option T) (View E G)) (x y : T)
      → z' ≡ z → m.0 ≡ took v (book_of x) → v.holds ≡ false → n ≡ (m.0, (0, None) ∷ [])
      → q ≡ (given (published n.0 (book_of y)), [])
      → known z' q.0 ≡ after_turn footing_of book_of (known z v) x y
  turned_view z z' v m n q x y e a f c d =
      let u : q.0 ≡ given (published (took v (book_of x)) (book_of y)) = ap
      (λ (r : Me (Option T) (View E G)). r.0) d
      ∙ ap (λ (w : View E G). given (published w (book_of y)))
      (ap (λ (r : Me (Option T) (View E G)). r.0) c ∙ a) in
      ap (λ i. known i q.0) e ∙ ap (known z) u
