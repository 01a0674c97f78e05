-- Steps that keep the views that are there, and links of views.
use Rattle.std.proofs.Common.{◌≡◌, ◌≢◌, ◌∙◌, ℕ, ◌<◌, Bool, true, false, cond, List, [], ◌∷◌, ◌++◌, map, Option, None, Some, inl, inr, nat_eq, refl, sym, ap, subst, arith}
use Rattle.std.specs.BTreeMap.{insert_entry, is_at}
use Rattle.std.specs.List.{AllByRecursion}
use Rattle.std.specs.Map.{lookup, remove_entry}
use Rattle.std.specs.Option.{is_some}
use Rattle.std.specs.Ordering.{nat_cmp, is_eq, match_ordering}
use Rattle.std.specs.declared.cmp.Ordering.{Ordering}
use Rattle.std.specs.declared.cmp.Ordering.TheVariants.{Less, Equal, Greater}
use Rattle.document_laws.proofs.Heard.{heard_is, keeps}
use Rattle.document_laws.specs.AtOnce.{answered, stored}
use Rattle.document_machine.specs.Due.{sent, takes}
use Rattle.document_machine.specs.Keys.{Pairwise}
use Rattle.document_machine.specs.Message.{Effect, heard}
use Rattle.document_machine.specs.Run.{Segment}
use Rattle.document_machine.specs.State.{View, Document, Job, find_view, with_view, without_view, find_job}
use Rattle.document_machine.specs.Step.{Works, Paints, offered, views_offered}
use Rattle.document_machine.specs.declared.outs.Outs.{Outs}
use Rattle.kit_trait.specs.Rules.{Rules}
use Rattle.kit_trait.specs.declared.jobs.PaintJob.{PaintJob}
use Rattle.outside.specs.declared.errands.Errand.{Errand}
use Rattle.tile_key.specs.Places.{Place}
use Rattle.script_world.specs.House.{ids_of}
use Rattle.script_world.specs.Seats.{link_in}

-- one view changed
pub ids-with_view : (views : List View) (id : ℕ) (change : View → View) → ((v : View) → (change v).id ≡ v.id) → ids_of (with_view views id change) ≡ ids_of views
ids-with_view [] id change same = refl
ids-with_view (v ∷ vs) id change same =
    elim (nat_eq v.id id) as (λ b. ids_of (cond b (change v ∷ vs) (v ∷ with_view vs id change)) ≡ ids_of (v ∷ vs)) [
      | true ↦ ap (λ (n : ℕ). n ∷ ids_of vs) (same v)
      | false ↦ ap (λ (ns : List ℕ). v.id ∷ ns) (ids-with_view vs id change same)
    ]

-- a message
pub ids-heard : {S : Type 0} (d : Document S) (id : ℕ) (view : View) (e : Effect) → find_view d.views id ≡ Some view → e.view.id ≡ view.id → ids_of (heard d id e).views ≡ ids_of d.views
ids-heard {S} d id view e live same = ap (λ (x : Document S). ids_of x.views) (heard_is d id view e live same) ∙ ids-with_view d.views id (keeps e.view) (λ v. refl)

-- a work of a turn
pub ids-works : {C B S : Type 0} (rules : Rules C B) (cut : C → Place → S) (old new : Document S) (outs : Outs S) → Works rules cut old outs new → ids_of new.views ≡ ids_of old.views
ids-works {C} {B} {S} rules cut old new outs works =
    elim works [
      | inl serves ↦ ap (λ (d : Document S). ids_of d.views) serves.new_is
      | inr more ↦ elim more [
        | inl applies ↦ ap (λ (d : Document S). ids_of d.views) applies.new_is
        | inr other ↦ elim other [
          | inl sends ↦ ap (λ (d : Document S). ids_of d.views) sends.new_is ∙ ids-with_view old.views sends.view.id (sent rules old sends.version sends.key) (λ v. refl)
          | inr cuts ↦ ap (λ (d : Document S). ids_of d.views) cuts.new_is
        ]
      ]
    ]

-- a painted tile is offered
id-offered : {C B S : Type 0} (rules : Rules C B) (d : Document S) (number : ℕ) (key : Place) (view : View) → (offered rules d number key view).id ≡ view.id
id-offered rules d number key view =
    elim (takes rules d number key view) as (λ b. (cond b (sent rules d number key view) view).id ≡ view.id) [
      | true ↦ refl
      | false ↦ refl
    ]

ids-map : (change : View → View) (views : List View) → ((v : View) → (change v).id ≡ v.id) → ids_of (map change views) ≡ ids_of views
ids-map change [] same = refl
ids-map change (v ∷ vs) same = ap (λ (n : ℕ). n ∷ ids_of (map change vs)) (same v) ∙ ap (λ (ns : List ℕ). v.id ∷ ns) (ids-map change vs same)

ids-offered : {C B S : Type 0} (rules : Rules C B) (d : Document S) (number : ℕ) (keys : List Place) (views : List View) → ids_of (views_offered rules d number keys views) ≡ ids_of views
ids-offered rules d number [] views = refl
ids-offered rules d number (key ∷ keys) views =
    ids-offered rules d number keys (map (offered rules d number key) views) ∙ ids-map (offered rules d number key) views (id-offered rules d number key)

-- a painted job
ids-paints : {C B S : Type 0} (rules : Rules C B) (old new : Document S) (ticket : ℕ) (scene : S) (outs : Outs S) (job : Option (Job S)) → Paints rules old ticket scene outs new job → ids_of new.views ≡ ids_of old.views
ids-paints {C} {B} {S} rules old new ticket scene outs None paints = ap (λ (d : Document S). ids_of d.views) paints.1
ids-paints {C} {B} {S} rules old new ticket scene outs (Some job) paints =
    elim paints [
      | inl other ↦ ap (λ (d : Document S). ids_of d.views) other.2
      | inr taken ↦ ap (λ (d : Document S). ids_of d.views) taken.2 ∙ ids-offered rules old job.number job.keys old.views
    ]

-- errands that are answered
ids-stored : {C B S : Type 0} (rules : Rules C B) (cut : C → Place → S) (old new : Document S) (errands : List Errand) (outs : Outs S) → Segment rules cut old (map stored errands) outs new → ids_of new.views ≡ ids_of old.views
ids-stored {C} {B} {S} rules cut old new [] outs run = ap (λ (d : Document S). ids_of d.views) run.1
ids-stored {C} {B} {S} rules cut old new (errand ∷ errands) outs run =
    ids-stored rules cut run.0 new errands run.2 run.4 ∙ ap (λ (d : Document S). ids_of d.views) run.3.1

pub ids-answers : {C B S : Type 0} (rules : Rules C B) (cut : C → Place → S) (old new : Document S) (jobs : List (PaintJob S)) (errands : List Errand) (outs : Outs S)
    → Segment rules cut old (map answered jobs ++ map stored errands) outs new → ids_of new.views ≡ ids_of old.views
ids-answers rules cut old new [] errands outs run = ids-stored rules cut old new errands outs run
ids-answers rules cut old new (job ∷ jobs) errands outs run =
    ids-answers rules cut run.0 new jobs errands run.2 run.4 ∙ ids-paints rules old run.0 job.ticket.0 job.scene run.1 (find_job old.jobs job.ticket.0) run.3

-- whether a view has a link
abbrev pub HasLink : List (ℕ × ℕ) → ℕ → Type 0
HasLink seats id = is_some (link_in seats id) ≡ true

-- whether the first of the seats is the view's
has_more : (seat : ℕ × ℕ) (seats others : List (ℕ × ℕ)) (id : ℕ) → (HasLink seats id → HasLink others id) → HasLink (seat ∷ seats) id → HasLink (seat ∷ others) id
has_more seat seats others id leads has =
    elim (nat_eq seat.1 id) as (λ b. is_some (cond b (Some seat.0) (link_in seats id)) ≡ true → is_some (cond b (Some seat.0) (link_in others id)) ≡ true) [
      | true ↦ λ h. refl
      | false ↦ λ h. leads h
    ] has

has_behind : (seat : ℕ × ℕ) (seats : List (ℕ × ℕ)) (id : ℕ) → HasLink seats id → HasLink (seat ∷ seats) id
has_behind seat seats id has =
    elim (nat_eq seat.1 id) as (λ b. is_some (cond b (Some seat.0) (link_in seats id)) ≡ true) [ true ↦ refl | false ↦ has ]

pub same_number : (n : ℕ) → nat_eq n n ≡ true
same_number n = grind arith

has_first : (link id : ℕ) (seats : List (ℕ × ℕ)) → HasLink ((link, id) ∷ seats) id
has_first link id seats = subst (λ (b : Bool). is_some (cond b (Some link) (link_in seats id)) ≡ true) (sym (same_number id)) refl

-- a link that was no view is one now: the others have their links, and so has the new view
sits_by : (o : Ordering) (seat : ℕ × ℕ) (seats more : List (ℕ × ℕ)) (link view id : ℕ) → is_eq o ≡ false → (HasLink seats id → HasLink more id) → HasLink (seat ∷ seats) id
    → HasLink (match_ordering o ((link, view) ∷ seat ∷ seats) ((seat.0, view) ∷ seats) (seat ∷ more)) id
sits_by Less seat seats more link view id apart leads has = has_behind (link, view) (seat ∷ seats) id has
sits_by Equal seat seats more link view id apart leads has = absurd (cc)
sits_by Greater seat seats more link view id apart leads has = has_more seat seats more id leads has

no_hit : (b : Bool) (view : ℕ) (rest : Option ℕ) → cond b (Some view) rest ≡ None → (b ≡ false) × (rest ≡ None)
no_hit true view rest none = absurd (cc)
no_hit false view rest none = (refl, none)

pub sits_others : (seats : List (ℕ × ℕ)) (link view id : ℕ) → lookup (is_at (nat_cmp link)) seats ≡ None → HasLink seats id → HasLink (insert_entry nat_cmp seats link view) id
sits_others [] link view id none has = absurd (cc)
sits_others (seat ∷ seats) link view id none has =
    let apart = no_hit (is_at (nat_cmp link) seat.0) seat.1 (lookup (is_at (nat_cmp link)) seats) none in
    sits_by (nat_cmp link seat.0) seat seats (insert_entry nat_cmp seats link view) link view id apart.0 (λ h. sits_others seats link view id apart.1 h) has

sits_new_by : (o : Ordering) (seat : ℕ × ℕ) (seats more : List (ℕ × ℕ)) (link view : ℕ) → HasLink more view
    → HasLink (match_ordering o ((link, view) ∷ seat ∷ seats) ((seat.0, view) ∷ seats) (seat ∷ more)) view
sits_new_by Less seat seats more link view has = has_first link view (seat ∷ seats)
sits_new_by Equal seat seats more link view has = has_first seat.0 view seats
sits_new_by Greater seat seats more link view has = has_behind seat more view has

pub sits_new : (seats : List (ℕ × ℕ)) (link view : ℕ) → HasLink (insert_entry nat_cmp seats link view) view
sits_new [] link view = has_first link view []
sits_new (seat ∷ seats) link view = sits_new_by (nat_cmp link seat.0) seat seats (insert_entry nat_cmp seats link view) link view (sits_new seats link view)

other_number : (n m : ℕ) → (m ≡ n → ⊥) → nat_eq n m ≡ false
other_number n m apart = grind arith

not_this : (seat : ℕ × ℕ) (seats : List (ℕ × ℕ)) (view id : ℕ) → seat.1 ≡ view → id ≢ view → HasLink (seat ∷ seats) id → HasLink seats id
not_this seat seats view id is apart has =
    let no : nat_eq seat.1 id ≡ false = other_number seat.1 id (λ e. apart (e ∙ is)) in
    subst (λ (b : Bool). is_some (cond b (Some seat.0) (link_in seats id)) ≡ true) no has

-- a link that is gone was that of no other view
pub gone_others : (test : ℕ → Bool) (seats : List (ℕ × ℕ)) (view id : ℕ) → lookup test seats ≡ Some view → id ≢ view → HasLink seats id → HasLink (remove_entry test seats) id
gone_others test [] view id found apart has = absurd (cc)
gone_others test (seat ∷ seats) view id found apart has =
    elim (test seat.0) as (λ b. cond b (Some seat.1) (lookup test seats) ≡ Some view → HasLink (cond b seats (seat ∷ remove_entry test seats)) id) [
      | true ↦ λ hit. not_this seat seats view id (cc) apart has
      | false ↦ λ miss. has_more seat seats (remove_entry test seats) id (λ h. gone_others test seats view id miss apart h) has
    ] found

-- a link that is no view is gone
pub gone_none : (test : ℕ → Bool) (seats : List (ℕ × ℕ)) (id : ℕ) → lookup test seats ≡ None → HasLink seats id → HasLink (remove_entry test seats) id
gone_none test [] id none has = absurd (cc)
gone_none test (seat ∷ seats) id none has =
    elim (test seat.0) as (λ b. cond b (Some seat.1) (lookup test seats) ≡ None → HasLink (cond b seats (seat ∷ remove_entry test seats)) id) [
      | true ↦ λ hit. absurd (cc)
      | false ↦ λ miss. has_more seat seats (remove_entry test seats) id (λ h. gone_none test seats id miss h) has
    ] none

-- the views without one are others
all_apart : (v : View) (vs : List View) → AllByRecursion (λ (w : View). v.id < w.id) vs → AllByRecursion (λ (n : ℕ). n ≢ v.id) (ids_of vs)
all_apart v [] above = tt
all_apart v (w ∷ vs) above = ((λ e. let less : v.id < w.id = above.0 in omega (arith, less, e)), all_apart v vs above.1)

pub ids_without : (views : List View) (id : ℕ) → Pairwise (λ (v w : View). v.id < w.id) views → AllByRecursion (λ (n : ℕ). n ≢ id) (ids_of (without_view views id))
ids_without [] id order = tt
ids_without (v ∷ vs) id order =
    elim (nat_eq v.id id) as (λ b. nat_eq v.id id ≡ b → AllByRecursion (λ (n : ℕ). n ≢ id) (ids_of (cond b vs (v ∷ without_view vs id)))) [
      | true ↦ λ is. let same : v.id ≡ id = grind arith in subst (λ (m : ℕ). AllByRecursion (λ (n : ℕ). n ≢ m) (ids_of vs)) same (all_apart v vs order.0)
      | false ↦ λ is. ((λ e. let h : nat_eq v.id id ≡ true = ap (λ n. nat_eq n id) e ∙ same_number id in let odd : true ≡ false = sym h ∙ is in absurd (cc)), ids_without vs id order.1)
    ] refl

-- what holds of all views' ids holds of those that stay
pub ids_stay : (P : ℕ → Type 0) (views : List View) (id : ℕ) → AllByRecursion P (ids_of views) → AllByRecursion P (ids_of (without_view views id))
ids_stay P [] id all = tt
ids_stay P (v ∷ vs) id all =
    elim (nat_eq v.id id) as (λ b. AllByRecursion P (ids_of (cond b vs (v ∷ without_view vs id)))) [
      | true ↦ all.1
      | false ↦ (all.0, ids_stay P vs id all.1)
    ]

-- no view has the id
pub ids_lack : (views : List View) (id : ℕ) → is_some (find_view views id) ≡ false → AllByRecursion (λ (n : ℕ). n ≢ id) (ids_of views)
ids_lack [] id none = tt
ids_lack (v ∷ vs) id none =
    elim (nat_eq v.id id) as (λ b. nat_eq v.id id ≡ b → is_some (cond b (Some v) (find_view vs id)) ≡ false → AllByRecursion (λ (n : ℕ). n ≢ id) (v.id ∷ ids_of vs)) [
      | true ↦ λ is lacks. absurd (cc)
      | false ↦ λ is lacks. ((λ e. let h : nat_eq v.id id ≡ true = ap (λ n. nat_eq n id) e ∙ same_number id in let odd : true ≡ false = sym h ∙ is in absurd (cc)), ids_lack vs id lacks)
    ] refl none

-- from each to each, where another fact holds too
pub all_by : (P Q R : ℕ → Type 0) (ns : List ℕ) → ((n : ℕ) → P n → Q n → R n) → AllByRecursion P ns → AllByRecursion Q ns → AllByRecursion R ns
all_by P Q R [] leads p q = tt
all_by P Q R (n ∷ ns) leads p q = (leads n p.0 q.0, all_by P Q R ns leads p.1 q.1)

pub all_more : (P : ℕ → Type 0) (ns : List ℕ) (m : ℕ) → AllByRecursion P ns → P m → AllByRecursion P (ns ++ m ∷ [])
all_more P [] m all one = (one, tt)
all_more P (n ∷ ns) m all one = (all.0, all_more P ns m all.1 one)

pub all_on : (P Q : ℕ → Type 0) (ns : List ℕ) → ((n : ℕ) → P n → Q n) → AllByRecursion P ns → AllByRecursion Q ns
all_on P Q [] leads p = tt
all_on P Q (n ∷ ns) leads p = (leads n p.0, all_on P Q ns leads p.1)

pub ids-append : (views : List View) (v : View) → ids_of (views ++ v ∷ []) ≡ ids_of views ++ v.id ∷ []
ids-append [] v = refl
ids-append (w ∷ views) v = ap (λ (ns : List ℕ). w.id ∷ ns) (ids-append views v)
