-- What a thread does with the items that it takes.
use Rattle.std.specs.Prelude.{ℕ, zero, suc, ◌≡◌, ◌≢◌, ◌-◌, ◌^◌, ◌⊎◌, ◌++◌, min, List, [], ◌∷◌, map, length, Option, Result, Err}
use Rattle.std.specs.Option.{option_map}
use Rattle.std.specs.List.{AllByRecursion}
use Rattle.cool_base.specs.declared.ids.DocId.{DocId}
use Rattle.cool_base.specs.declared.ids.Ticket.{Ticket}
use Rattle.outside.specs.Stores.{StoreCall, Puts}
use Rattle.outside.specs.declared.faults.StoreFault.TheVariants.{Memory as NoMemory}
use Rattle.paint_yard.specs.declared.passes.Item.{Item}
use Rattle.paint_yard.specs.declared.passes.Item.TheVariants.{Work as WorkItem, Close}
use Rattle.paint_yard.specs.declared.workers.Posted.{Posted}
use Rattle.paint_yard.specs.declared.workers.Posted.TheVariants.{Put as IsPut, Gone, Again, Memory as PostMemory}
use Rattle.paint_yard.specs.declared.working.WorkerEnd.{WorkerEnd}
use Rattle.paint_yard.specs.declared.working.WorkerEnd.TheVariants.{Closed, Memory}
use Rattle.yard_traits.specs.declared.works.Answered.{Answered}
use Rattle.yard_traits.specs.declared.works.Answered.TheVariants.{Painted, PutDone}
use Rattle.yard_traits.specs.declared.works.Work.{Work}
use Rattle.yard_traits.specs.declared.works.Work.TheVariants.{Paint, Put}

-- what is told has these more at its end. Both are told or neither is
abbrev pub Adds : {A : Type 0} → Option (List A) → List A → Option (List A) → Type 0
Adds old more new = new ≡ option_map (λ all. all ++ more) old

-- how a post was answered: the answer was taken, it was dropped as its document is gone, or it was refused
pub data Reply : Type 0 where
  Taken : Reply
  Dropped : Reply
  Refused : Reply

-- one post: the document, the answer, and how it was answered
pub record Posting (A : Type 0) : Type 0 where
  pub doc : DocId
  pub answer : A
  pub reply : Reply

-- one post of this answer to this document, answered so
abbrev pub posting : {A : Type 0} → DocId → A → Reply → Posting A
posting doc answer reply = record { doc = doc; answer = answer; reply = reply }

-- the post was made, and is told with its answer, which hands a refused one back; one that memory refused was
-- not made
abbrev pub Posts : {A : Type 0} → Option (List (Posting A)) → DocId → A → Posted A
    → Option (List (Posting A)) → Type 0
Posts old doc answer IsPut new = Adds old (posting doc answer Taken ∷ []) new
Posts old doc answer Gone new = Adds old (posting doc answer Dropped ∷ []) new
Posts old doc answer (Again back) new = (back ≡ answer)
    × Adds old (posting doc answer Refused ∷ []) new
Posts old doc answer (PostMemory back) new = (back ≡ answer) × (new ≡ old)

-- these posts are of one answer, and each was refused
abbrev pub AreRefused : {A : Type 0} → DocId → A → List (Posting A) → Type 0
AreRefused doc answer posts = AllByRecursion (λ post. post ≡ posting doc answer Refused) posts

-- these posts are of one answer: refused ones, and then one that wasn't
pub record IsDelivered {A : Type 0} (doc : DocId) (answer : A)
    (posts : List (Posting A)) : Type 0 where
  pub refused : List (Posting A)
  pub reply : Reply
  pub are_refused : AreRefused doc answer refused
  pub ended : reply ≢ Refused
  pub posts_are : posts ≡ refused ++ posting doc answer reply ∷ []

-- how many works were taken, told before each of them: 1, 2 and so on, up to 2^64 - 1
abbrev pub counts : ℕ → List ℕ
counts zero = []
counts (suc n) = counts n ++ min (suc n) (2 ^ 64 - 1) ∷ []

-- a work in the queue
abbrev pub item_of : {W : Type 0} → DocId × W → Item W
item_of entry = WorkItem entry.0 entry.1

-- the work got no answer, as memory was refused: a put was perhaps made
abbrev pub IsUnanswered : {S : Type 0} → Work S → List StoreCall → Type 0
IsUnanswered (Paint job) calls = calls ≡ []
IsUnanswered (Put errand) calls = (calls ≡ []) ⊎ (calls ≡ Puts errand (Err NoMemory) ∷ [])

module _ {S D : Type 0} (ticket_of : D → Ticket) (scene_of : D → S) where
  -- the answer is one to this work: the job's scene, painted, or what the store answered now to one put of the
  -- errand, which is not that it had no memory
  abbrev pub IsAnswerTo : Work S → Answered D → List StoreCall → Type 0
  IsAnswerTo (Paint job) (Painted done) calls =
      (ticket_of done ≡ job.ticket) × (scene_of done ≡ job.scene) × (calls ≡ [])
  IsAnswerTo (Put errand) (PutDone ticket result) calls =
      (ticket ≡ errand.ticket) × (calls ≡ Puts errand result ∷ []) × (result ≢ Err NoMemory)
  IsAnswerTo (Paint job) (PutDone ticket result) calls = ⊥
  IsAnswerTo (Put errand) (Painted done) calls = ⊥

  -- the work was done, and its answer delivered to its document
  pub record IsDone (doc : DocId) (work : Work S) (posts : List (Posting (Answered D)))
      (calls : List StoreCall) : Type 0 where
    pub answer : Answered D
    pub answers : IsAnswerTo work answer calls
    pub delivered : IsDelivered doc answer posts

  -- these works were done, one after another
  abbrev pub AreDone : List (DocId × Work S) → List (Posting (Answered D)) → List StoreCall → Type 0
  AreDone [] posts calls = (posts ≡ []) × (calls ≡ [])
  AreDone ((doc, work) ∷ works) posts calls =
      (now : List (Posting (Answered D))) × (later : List (Posting (Answered D)))
      × (made : List StoreCall) × (more : List StoreCall)
      × (posts ≡ now ++ later) × (calls ≡ made ++ more)
      × IsDone doc work now made × AreDone works later more

  -- the work was left, as memory was refused: before it had its answer, or when its answer was posted
  abbrev pub IsLeft : DocId → Work S → List (Posting (Answered D)) → List StoreCall → Type 0
  IsLeft doc work posts calls =
      ((posts ≡ []) × IsUnanswered work calls)
      ⊎ ((answer : Answered D) × IsAnswerTo work answer calls × AreRefused doc answer posts)

  -- what a thread took, what it posted, the calls of its store, and the counts that its gate was told
  pub record Deeds : Type 0 where
    pub took : List (Item (Work S))
    pub posts : Option (List (Posting (Answered D)))
    pub calls : Option (List StoreCall)
    pub passes : Option (List ℕ)

  -- the deeds are more by these: the items, the posts, the calls, and as many passes
  pub record Went (old : Deeds) (items : List (Item (Work S))) (posts : List (Posting (Answered D)))
      (calls : List StoreCall) (passes : ℕ) (new : Deeds) : Type 0 where
    pub took : new.took ≡ old.took ++ items
    pub posted : Adds old.posts posts new.posts
    pub called : Adds old.calls calls new.calls
    pub passed : Adds old.passes (counts passes) new.passes

  -- how a thread ends: Closed where it took a close mark behind works that are all done; Memory where it left the
  -- last work that it took, and the works before it are done
  abbrev pub EndsWith : Deeds → WorkerEnd → Deeds → Type 0
  EndsWith old Closed new =
      (works : List (DocId × Work S)) × (posts : List (Posting (Answered D)))
      × (calls : List StoreCall)
      × AreDone works posts calls
      × Went old (map item_of works ++ Close ∷ []) posts calls (length works) new
  EndsWith old Memory new =
      (works : List (DocId × Work S)) × (posts : List (Posting (Answered D)))
      × (calls : List StoreCall)
      × (last : DocId × Work S) × (left : List (Posting (Answered D))) × (made : List StoreCall)
      × AreDone works posts calls × IsLeft last.0 last.1 left made
      × Went old (map item_of works ++ item_of last ∷ []) (posts ++ left) (calls ++ made)
      (suc (length works)) new
