-- What one entry of a legal history does to a document's place and to its mails.
use Rattle.std.proofs.Common.{◌≡◌, ℕ, ◌≤◌, Bool, true, false, None, Some, Ok, Err, List, [], ◌++◌}
use Rattle.std.proofs.Common.{length, drop, cond, eqb, refl, sym, ap, subst, ◌∙◌, arith, min}
use Rattle.std.specs.Prelude.{Option, Result, nat_le}
use Rattle.std.specs.Option.{option_map}
use Rattle.std.proofs.lemmas.Bool.{eqb-true}
use Rattle.std.proofs.lemmas.List.Quantifiers.{position-Some}
use Rattle.std.proofs.lemmas.List.{append-nil}
use Rattle.hall_machine.specs.declared.words.Ground.{Ground}
use Rattle.hall_machine.specs.declared.words.HallAct.{HallAct}
use Rattle.hall_machine.specs.declared.words.HallAct.TheVariants.{Enter, Post, Collect, Depart}
use Rattle.hall_machine.specs.declared.words.HallAct.TheVariants.{Arrive, Close}
use Rattle.hall_machine.specs.declared.words.Entered.{Entered}
use Rattle.hall_machine.specs.declared.words.HallFault.{HallFault}
use Rattle.hall_machine.specs.declared.words.Entered.TheVariants.{There, Fresh}
use Rattle.hall_machine.specs.declared.words.HallFault.TheVariants.{HallFull, BookFull}
use Rattle.hall_machine.specs.Machine.{at, Desk, Stage, nobody, desk_at, place_of, place_of_file}
use Rattle.hall_machine.specs.Machine.{place_bound_to, is_bound_to, is_full, enter_at, enter_answer}
use Rattle.hall_machine.specs.Machine.{post_at, collect_at, depart_at, arrive_at, close_at}
use Rattle.hall_machine.specs.Ids.{Rises}
use Rattle.hall_machine.specs.Entries.{desk_after, with_desk, after_at, after_act, IsMade}
use Rattle.hall_machine.proofs.Owners.{departs_owned, collects_owned, closes_owned, bound_for}
use Rattle.hall_machine.proofs.Rising.{found_there}
use Rattle.hall_laws.specs.History.{desk_of, place_in, mails_at, mails_in, turned, IsAllowed}
use Rattle.hall_laws.specs.History.{label_of, count_of}
use Rattle.hall_laws.proofs.Lookups.{lookup_at, lookup_set, lookup_above, lookup_push}
use Rattle.hall_laws.proofs.Lookups.{lookup_remove, place_facts}

pub some_of : (p : Option ℕ) → (p ≡ None → ⊥) → (i : ℕ) × (p ≡ Some i)
some_of None h = absurd (h refl)
some_of (Some i) h = (i, refl)

pick : {A B : Type 0} (f : A → B) (d doc : ℕ) (y z : A) (t r : B) (b : Bool) → eqb d doc ≡ b
    → (d ≡ doc → f y ≡ t) → f z ≡ r → f (cond b y z) ≡ cond b t r
pick f d doc y z t r true is h e = h (eqb-true d doc is)
pick f d doc y z t r false is h e = e

abbrev id_given : Result Entered HallFault → ℕ
id_given (Ok (There d)) = d.0
id_given (Ok (Fresh d)) = d.0
id_given (Err why) = 0

-- a new document has the next id
fresh_by : (b c : Bool) (s : Stage) (d : ℕ)
    → cond b (Err HallFull) (cond c (Err BookFull) (Ok (Fresh (record { 0 = s.next }))))
    ≡ Ok (Fresh (record { 0 = d })) → d ≡ s.next
fresh_by true c s d h = cc
fresh_by false true s d h = cc
fresh_by false false s d h = sym (ap id_given h)

fresh_id : (g : Ground) (s : Stage) (p : Option ℕ) (d : ℕ)
    → enter_at g s p ≡ Ok (Fresh (record { 0 = d })) → d ≡ s.next
fresh_id g s (Some i) d h = cc
fresh_id g s None d h = fresh_by (nat_le 64 (length s.desks)) (is_full g s) s d h

pub new_id : (g : Ground) (s : Stage) (d : ℕ) (file : List ℕ)
    → enter_answer g s file ≡ Ok (Fresh (record { 0 = d })) → d ≡ s.next
new_id g s d file h = fresh_id g s (place_of_file file s.desks) d h

module _ (s : Stage) (d : ℕ) where
  -- what an act of the caller does to the place of the document and to its mails, and to no other's
  pub record Acts (who : ℕ) (act : HallAct) (t : Stage) : Type 0 where
    pub allowed : IsAllowed who act (place_in d s)
    pub places : (doc : ℕ)
        → place_in doc t ≡ cond (eqb d doc) (turned who act (place_in doc s)) (place_in doc s)
    pub mails : (doc : ℕ)
        → mails_in doc t ≡ cond (eqb d doc) (drop (count_of act) (mails_in doc s ++ label_of act))
        (mails_in doc s)
    pub few : count_of act ≤ length (mails_in d s)

  acts : (who : ℕ) (act : HallAct) (t : Stage) (w : Option Desk)
      → ((doc : ℕ) → desk_of doc t.desks ≡ cond (eqb d doc) w (desk_of doc s.desks))
      → IsAllowed who act (place_in d s)
      → option_map (λ (x : Desk). x.holder) w ≡ turned who act (place_in d s)
      → mails_at w ≡ drop (count_of act) (mails_in d s ++ label_of act)
      → count_of act ≤ length (mails_in d s)
      → Acts who act t
  acts who act t w look may place mail few = record {
    allowed = may;
    places = λ doc. ap (option_map (λ (x : Desk). x.holder)) (look doc)
        ∙ pick (option_map (λ (x : Desk). x.holder)) d doc w (desk_of doc s.desks)
        (turned who act (place_in doc s)) (place_in doc s) (eqb d doc) refl
        (λ e. subst (λ k. option_map (λ (x : Desk). x.holder) w
        ≡ turned who act (place_in k s)) e place) refl;
    mails = λ doc. ap mails_at (look doc)
        ∙ pick mails_at d doc w (desk_of doc s.desks)
        (drop (count_of act) (mails_in doc s ++ label_of act)) (mails_in doc s) (eqb d doc) refl
        (λ e. subst (λ k. mails_at w
        ≡ drop (count_of act) (mails_in k s ++ label_of act)) e mail) refl;
    few = few;
  }

  -- the same where the document is open at a place, and one act changes it there
  acts_at : (who : ℕ) (act : HallAct) (i : ℕ) → place_of d s.desks ≡ Some i
      → ((p : ℕ) → after_at who act (Some p) s
      ≡ with_desk p (desk_after who act (desk_at s.desks p)) s)
      → (desk_after who act (desk_at s.desks i)).doc ≡ (desk_at s.desks i).doc
      → IsAllowed who act (Some (desk_at s.desks i).holder)
      → Some (desk_after who act (desk_at s.desks i)).holder
      ≡ turned who act (Some (desk_at s.desks i).holder)
      → (desk_after who act (desk_at s.desks i)).mails
      ≡ drop (count_of act) ((desk_at s.desks i).mails ++ label_of act)
      → count_of act ≤ length (desk_at s.desks i).mails
      → Acts who act (after_at who act (place_of d s.desks) s)
  acts_at who act i place one id may put mail few =
      let f = place_facts d i s.desks place in
      let here : desk_of d s.desks ≡ Some (desk_at s.desks i) = lookup_at d i s.desks f.0 f.1 f.2 in
      let y : Desk = desk_after who act (desk_at s.desks i) in
      let to : after_at who act (place_of d s.desks) s
      ≡ with_desk i y s = ap (λ p. after_at who act p s) place ∙ one i in
      acts who act (after_at who act (place_of d s.desks) s) (Some y)
      (λ doc. ap (λ (t : Stage). desk_of doc t.desks) to
      ∙ lookup_set d doc i s.desks y f.0 f.1 (id ∙ f.1) f.2)
      (subst (λ w. IsAllowed who act w) (ap (option_map (λ (x : Desk). x.holder)) (sym here)) may)
      (put ∙ ap (turned who act) (ap (option_map (λ (x : Desk). x.holder)) (sym here)))
      (mail ∙ ap (λ w. drop (count_of act) (mails_at w ++ label_of act)) (sym here))
      (subst (λ w. count_of act ≤ length (mails_at w)) (sym here) few)

  acts_close : (who i : ℕ) → Rises s → place_of d s.desks ≡ Some i
      → (desk_at s.desks i).holder ≡ at who → (desk_at s.desks i).mails ≡ []
      → Acts who Close (after_at who Close (place_of d s.desks) s)
  acts_close who i rises place own none =
      let f = place_facts d i s.desks place in
      let here : desk_of d s.desks ≡ Some (desk_at s.desks i) = lookup_at d i s.desks f.0 f.1 f.2 in
      let mails : mails_in d s ≡ [] = ap mails_at here ∙ none in
      acts who Close (after_at who Close (place_of d s.desks) s) None
      (λ doc. ap (λ p. desk_of doc (after_at who Close p s).desks) place
      ∙ lookup_remove d doc 0 i s.desks s.next f.0 f.1 f.2 rises)
      (ap (option_map (λ (x : Desk). x.holder)) here ∙ ap (λ w. Some w) own)
      refl
      (sym (ap (λ ms. ms ++ []) mails))
      (omega arith)

  acts_enter : (who : ℕ) (file : List ℕ) → Rises s → d ≡ s.next
      → Acts who (Enter file) (after_act who d (Enter file) s)
  acts_enter who file rises id =
      let here : desk_of d s.desks ≡ None = lookup_above d 0 s.desks s.next (omega arith) rises in
      acts who (Enter file) (after_act who d (Enter file) s)
      (Some (record { doc = s.next; file = file; holder = at who; mails = [] }))
      (λ doc. lookup_push doc 0 s.desks s.next
      (record { doc = s.next; file = file; holder = at who; mails = [] }) refl rises
      ∙ ap (λ k. cond (eqb k doc)
      (Some (record { doc = s.next; file = file; holder = at who; mails = [] }))
      (desk_of doc s.desks)) (sym id))
      (ap (option_map (λ (x : Desk). x.holder)) here)
      refl
      (sym (ap (λ w. mails_at w ++ []) here))
      (omega arith)

-- an entry that the machine makes
pub acted : (g : Ground) (s : Stage) (who d : ℕ) (act : HallAct) → Rises s → IsMade g s who d act
    → Acts s d who act (after_act who d act s)
acted g s who d (Enter file) rises made = acts_enter s d who file rises (new_id g s d file made)
acted g s who d (Post label urgent) rises made =
    let p = some_of (place_of d s.desks)
    (λ e. (let h : post_at g s urgent None
    ≡ Ok tt = subst (λ p. post_at g s urgent p ≡ Ok tt) e made in cc)) in
    acts_at s d who (Post label urgent) p.0 p.1 (λ i. refl) refl (λ e. cc) refl refl (omega arith)
acted g s who d (Collect n) rises made =
    let p = some_of (place_of d s.desks)
    (λ e. (let h : collect_at s who None
    ≡ Ok n = subst (λ p. collect_at s who p ≡ Ok n) e made.0 in cc)) in
    let own = collects_owned s who d p.0 n made.0 p.1 in
    acts_at s d who (Collect n) p.0 p.1 (λ i. refl) refl (ap (λ w. Some w) own.0) refl
    (ap (drop n) (sym (append-nil (desk_at s.desks p.0).mails))) (omega (arith, own.1))
acted g s who d (Depart to) rises made =
    let p = some_of (place_of d s.desks)
    (λ e. (let h : depart_at g s who None
    ≡ Ok tt = subst (λ p. depart_at g s who p ≡ Ok tt) e made.0 in cc)) in
    acts_at s d who (Depart to) p.0 p.1 (λ i. refl) refl
    (ap (λ w. Some w) (departs_owned g s who d p.0 made.0 p.1)) refl
    (sym (append-nil (desk_at s.desks p.0).mails)) (omega arith)
acted g s who d Arrive rises made =
    let p = some_of (place_bound_to who s.desks)
    (λ e. (let h : arrive_at s None
    ≡ Some d = subst (λ p. arrive_at s p ≡ Some d) e made in cc)) in
    let f = position-Some (λ (x : Desk). is_bound_to who x.holder) s.desks p.0 nobody p.1 in
    let e : Some (desk_at s.desks p.0).doc
    ≡ Some d = subst (λ q. arrive_at s q ≡ Some d) p.1 made in
    let id : (desk_at s.desks p.0).doc ≡ d = cc in
    let place : place_of d s.desks
    ≡ Some p.0 = subst (λ k. place_of k s.desks ≡ Some p.0) id
    (found_there 0 s.desks s.next p.0 f.0 rises) in
    acts_at s d who Arrive p.0 place (λ i. refl) refl
    (ap (λ w. Some w) (bound_for who (desk_at s.desks p.0).holder f.1)) refl
    (sym (append-nil (desk_at s.desks p.0).mails)) (omega arith)
acted g s who d Close rises made =
    let p = some_of (place_of d s.desks)
    (λ e. (let h : close_at s who None
    ≡ Ok tt = subst (λ p. close_at s who p ≡ Ok tt) e made in cc)) in
    let own = closes_owned s who d p.0 made p.1 in
    acts_close s d who p.0 rises p.1 own.0 own.1

-- how many mails a collect takes
pub collected_number : (g : Ground) (s : Stage) (who d n : ℕ) → IsMade g s who d (Collect n)
    → n ≡ min 64 (length (mails_in d s))
collected_number g s who d n made =
    let p = some_of (place_of d s.desks)
    (λ e. (let h : collect_at s who None
    ≡ Ok n = subst (λ p. collect_at s who p ≡ Ok n) e made.0 in cc)) in
    let own = collects_owned s who d p.0 n made.0 p.1 in
    let f = place_facts d p.0 s.desks p.1 in
    own.1 ∙ ap (λ w. min 64 (length (mails_at w))) (sym (lookup_at d p.0 s.desks f.0 f.1 f.2))
