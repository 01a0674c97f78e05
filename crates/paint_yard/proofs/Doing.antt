-- A work gets its answer, and the answer is delivered.
use Rattle.std.proofs.Common.{◌≡◌, ◌≢◌, ◌⊎◌, IsErr, is_err, true, false, MatchResult, List, [], ◌∷◌, ◌++◌, Option, Some, None, Result, Ok, Err, refl, ap, sym, subst, ◌∙◌, inl, inr, append_assoc, append-nil}
use Rattle.std.specs.List.{AllByRecursion}
use Rattle.cool_base.specs.declared.ids.DocId.{DocId}
use Rattle.cool_base.specs.declared.ids.Ticket.{Ticket}
use Rattle.outside.specs.Stores.{StoreCall, Puts, Tells}
use Rattle.outside.specs.declared.errands.Errand.{Errand}
use Rattle.outside.specs.declared.errands.Receipt.{Receipt}
use Rattle.outside.specs.declared.faults.StoreFault.{StoreFault}
use Rattle.outside.specs.declared.faults.StoreFault.TheVariants.{Memory as NoMemory}
use Rattle.paint_yard.specs.declared.workers.Posted.{Posted}
use Rattle.paint_yard.specs.declared.workers.Posted.TheVariants.{Put as IsPut, Gone}
use Rattle.paint_yard.specs.Working.{Adds, Posting, posting, Posts, Reply, Taken, Dropped, Refused, AreRefused, IsDelivered, IsAnswerTo, IsUnanswered}
use Rattle.paint_yard.proofs.Telling.{adds_none, adds_more}
use Rattle.yard_traits.specs.declared.works.Answered.{Answered}
use Rattle.yard_traits.specs.declared.works.Answered.TheVariants.{Painted, PutDone}
use Rattle.yard_traits.specs.declared.works.Work.{Work}
use Rattle.yard_traits.specs.declared.works.Work.TheVariants.{Paint, Put}

-- a put that memory refused: the call is told, or not
pub put_refused : {S : Type 0} (work : Work S) (errand : Errand) (old new : Option (List StoreCall))
    (result : Result Receipt StoreFault)
    → work ≡ Put errand → Tells old (Puts errand result) result new → result ≡ Err NoMemory
    → (made : List StoreCall) × Adds old made new × IsUnanswered work made
put_refused work errand old new result is (inl told) e = (
  Puts errand result ∷ [],
  told,
  subst (λ (w : Work _). IsUnanswered w (Puts errand result ∷ []))
      (sym is) (inr (ap (λ r. Puts errand r ∷ []) e)),
)
put_refused work errand old new result is (inr (_, same)) e =
    ([], adds_none old new same, subst (λ (w : Work _). IsUnanswered w []) (sym is) (inl refl))

-- a put that was answered otherwise: the call is told, and its result is the work's
pub put_answered : {S D : Type 0} (ticket_of : D → Ticket) (scene_of : D → S) (work : Work S)
    (errand : Errand) (old new : Option (List StoreCall)) (result : Result Receipt StoreFault)
    → work ≡ Put errand → Tells old (Puts errand result) result new → result ≢ Err NoMemory
    → (made : List StoreCall) × Adds old made new
    × IsAnswerTo ticket_of scene_of work (PutDone errand.ticket result) made
put_answered ticket_of scene_of work errand old new result is (inl told) other = (
  Puts errand result ∷ [],
  told,
  subst
      (λ (w : Work _). IsAnswerTo ticket_of scene_of w (PutDone errand.ticket result)
      (Puts errand result ∷ [])) (sym is) (refl, refl, other),
)
put_answered ticket_of scene_of work errand old new result is (inr (refused, same)) other =
    absurd (other refused)

-- refused posts, and one more
pub refused_more : {A : Type 0} (doc : DocId) (answer : A) (posts : List (Posting A))
    → AreRefused doc answer posts → AreRefused doc answer (posts ++ posting doc answer Refused ∷ [])
refused_more doc answer [] all = (refl, tt)
refused_more doc answer (post ∷ posts) (first, all) = (first, refused_more doc answer posts all)

-- refused posts, and one that wasn't
pub delivered_by : {A : Type 0} (doc : DocId) (answer : A) (reply : Reply)
    (old mid new : Option (List (Posting A))) (posts : List (Posting A))
    → Adds old posts mid → AreRefused doc answer posts → reply ≢ Refused
    → Adds mid (posting doc answer reply ∷ []) new
    → (made : List (Posting A)) × Adds old made new × IsDelivered doc answer made
delivered_by doc answer reply old mid new posts told all ended one = (
  posts ++ posting doc answer reply ∷ [],
  adds_more old mid new posts (posting doc answer reply ∷ []) told one,
  record { refused = posts; reply = reply; are_refused = all; ended = ended; posts_are = refl },
)

-- a post that was answered so is none that was refused
taken_ends : Taken ≢ Refused
taken_ends e = cc

dropped_ends : Dropped ≢ Refused
dropped_ends e = cc

-- refused posts, and one that was taken or dropped
pub post_ends : {A : Type 0} (doc : DocId) (answer waiting : A)
    (old mid new : Option (List (Posting A))) (posts : List (Posting A)) (result : Posted A)
    → waiting ≡ answer → Adds old posts mid → AreRefused doc answer posts
    → (result ≡ IsPut) ⊎ (result ≡ Gone) → Posts mid doc waiting result new
    → (made : List (Posting A)) × Adds old made new × IsDelivered doc answer made
post_ends doc answer waiting old mid new posts result same told all (inl is) said =
    let here : Posts mid doc waiting IsPut new = subst (λ r. Posts mid doc waiting r new) is said in
    delivered_by doc answer Taken old mid new posts told all taken_ends
    (subst (λ w. Adds mid (posting doc w Taken ∷ []) new) same here)
post_ends doc answer waiting old mid new posts result same told all (inr is) said =
    let here : Posts mid doc waiting Gone new = subst (λ r. Posts mid doc waiting r new) is said in
    delivered_by doc answer Dropped old mid new posts told all dropped_ends
    (subst (λ w. Adds mid (posting doc w Dropped ∷ []) new) same here)

-- what holds of every refusal holds of one
pub refused_by : {T E : Type 0} (r : Result T E) (P : T → Type 0) (Q : Type 0) → IsErr r → Q
    → MatchResult r P (λ e. Q)
refused_by (Err e) P Q is q = q
refused_by (Ok t) P Q is q = let odd : false ≡ true = is in absurd (cc)

-- what a refusal says
pub said_err : {T E : Type 0} (r : Result T E) (P : T → Type 0) (Q : Type 0) → is_err r ≡ true
    → MatchResult r P (λ e. Q) → Q
said_err (Err e) P Q is q = q
said_err (Ok t) P Q is p = let odd : false ≡ true = is in absurd (cc)

-- what another answer says
pub said_ok : {T E : Type 0} (r : Result T E) (P Q : Type 0) → is_err r ≡ false
    → MatchResult r (λ t. P) (λ e. Q) → P
said_ok (Ok t) P Q is p = p
said_ok (Err e) P Q is q = let odd : true ≡ false = is in absurd (cc)
