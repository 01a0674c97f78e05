-- Works are done one after another.
use Rattle.std.proofs.Common.{◌≡◌, ℕ, suc, ◌+◌, ◌-◌, ◌^◌, min, List, [], ◌∷◌, ◌++◌, map, length, Option, Some, None, refl, ap, sym, subst, ◌∙◌, arith, append_assoc, append-nil}
use Rattle.std.proofs.lemmas.List.{map-append, length-append}
use Rattle.cool_base.specs.declared.ids.DocId.{DocId}
use Rattle.cool_base.specs.declared.ids.Ticket.{Ticket}
use Rattle.outside.specs.Stores.{StoreCall}
use Rattle.paint_yard.specs.declared.passes.Item.{Item}
use Rattle.paint_yard.specs.declared.passes.Item.TheVariants.{Work as WorkItem, Close}
use Rattle.paint_yard.specs.Working.{Adds, Posting, counts, item_of, IsDone, AreDone, IsLeft, Deeds, Went, EndsWith}
use Rattle.paint_yard.specs.declared.working.WorkerEnd.TheVariants.{Closed, Memory}
use Rattle.paint_yard.proofs.Telling.{adds_none, adds_more}
use Rattle.yard_traits.specs.declared.works.Answered.{Answered}
use Rattle.yard_traits.specs.declared.works.Work.{Work}

module _ {S D : Type 0} (ticket_of : D → Ticket) (scene_of : D → S) where
  -- one more work is done behind those that are
  pub done_more : (works : List (DocId × Work S)) (posts : List (Posting (Answered D)))
      (calls : List StoreCall)
      (doc : DocId) (work : Work S) (now : List (Posting (Answered D))) (made : List StoreCall)
      → AreDone ticket_of scene_of works posts calls → IsDone ticket_of scene_of doc work now made
      → AreDone ticket_of scene_of (works ++ (doc, work) ∷ []) (posts ++ now) (calls ++ made)
  done_more [] posts calls doc work now made (p, c) is = (
    now,
    [],
    made,
    [],
    ap (λ x. x ++ now) p ∙ sym (append-nil now),
    ap (λ x. x ++ made) c
        ∙ sym (append-nil made),
    is,
    (refl, refl),
  )
  done_more ((d, w) ∷ works) posts calls doc work now made
      (first, later, did, more, p, c, this, rest) is = (
        first,
        later ++ now,
        did,
        more ++ made,
        ap (λ x. x ++ now) p ∙ append_assoc first later now,
        ap (λ x. x ++ made) c ∙ append_assoc did more made,
        this,
        done_more works later more doc work now made rest is,
      )

  -- nothing is done yet
  pub went_none : (old : Deeds ticket_of scene_of) → Went ticket_of scene_of old [] [] [] 0 old
  went_none old = record {
    took = sym (append-nil old.took);
    posted = adds_none old.posts old.posts refl;
    called = adds_none old.calls old.calls refl;
    passed = adds_none old.passes old.passes refl;
  }

  -- one more item is taken and let through, with more posts and calls
  pub went_more : (old mid : Deeds ticket_of scene_of) (items : List (Item (Work S)))
      (item : Item (Work S))
      (posts now : List (Posting (Answered D))) (calls made : List StoreCall) (n count : ℕ)
      (took : List (Item (Work S))) (told : Option (List (Posting (Answered D))))
      (store : Option (List StoreCall)) (passes : Option (List ℕ))
      → Went ticket_of scene_of old items posts calls n mid
      → took ≡ mid.took ++ item ∷ [] → Adds mid.posts now told → Adds mid.calls made store
      → Adds mid.passes (count ∷ []) passes
      → count ≡ min (suc n) (2 ^ 64 - 1)
      → Went ticket_of scene_of old (items ++ item ∷ []) (posts ++ now) (calls ++ made) (suc n)
      (record { took = took; posts = told; calls = store; passes = passes })
  went_more old mid items item posts now calls made n count took told store passes went t p c g is =
      record {
        took = t ∙ ap (λ xs. xs ++ item ∷ []) went.took ∙ append_assoc old.took items (item ∷ []);
        posted = adds_more old.posts mid.posts told posts now went.posted p;
        called = adds_more old.calls mid.calls store calls made went.called c;
        passed = adds_more old.passes mid.passes passes (counts n)
            (min (suc n) (2 ^ 64 - 1) ∷ []) went.passed
            (subst (λ k. Adds mid.passes (k ∷ []) passes) is g);
      }

  -- a close mark is taken: nothing else is done
  pub went_closed : (old mid : Deeds ticket_of scene_of) (items : List (Item (Work S)))
      (posts : List (Posting (Answered D))) (calls : List StoreCall) (n : ℕ)
      (took : List (Item (Work S)))
      → Went ticket_of scene_of old items posts calls n mid → took ≡ mid.took ++ Close ∷ []
      → Went ticket_of scene_of old (items ++ Close ∷ []) posts calls n
      (record { took = took; posts = mid.posts; calls = mid.calls; passes = mid.passes })
  went_closed old mid items posts calls n took went t = record {
    took = t ∙ ap (λ xs. xs ++ Close ∷ []) went.took ∙ append_assoc old.took items (Close ∷ []);
    posted = went.posted;
    called = went.called;
    passed = went.passed;
  }

-- the items of works with one more
pub items_more : {W : Type 0} (works : List (DocId × W)) (doc : DocId) (work : W)
    → map item_of works ++ WorkItem doc work ∷ [] ≡ map item_of (works ++ (doc, work) ∷ [])
items_more works doc work = sym (map-append item_of works ((doc, work) ∷ []))

-- how many there are then
pub one_more : {A : Type 0} (xs : List A) (x : A) → suc (length xs) ≡ length (xs ++ x ∷ [])
one_more xs x = omega (arith, length-append xs (x ∷ []))

-- a count that stands still at its most
pub count_more : (n count next : ℕ) → count ≡ min n (2 ^ 64 - 1)
    → next ≡ min (count + 1) (2 ^ 64 - 1) → next ≡ min (suc n) (2 ^ 64 - 1)
count_more n count next is then = omega (arith, is, then)

module _ {S D : Type 0} (ticket_of : D → Ticket) (scene_of : D → S) where
  -- so far works were taken, let through and done, and so many were counted
  abbrev pub Reached : Deeds ticket_of scene_of → ℕ → Deeds ticket_of scene_of → Type 0
  Reached old count new =
      (works : List (DocId × Work S)) × (posts : List (Posting (Answered D)))
      × (calls : List StoreCall)
      × AreDone ticket_of scene_of works posts calls
      × Went ticket_of scene_of old (map item_of works) posts calls (length works) new
      × (count ≡ min (length works) (2 ^ 64 - 1))

  -- none yet
  pub reached_none : (old : Deeds ticket_of scene_of) → Reached old 0 old
  reached_none old = ([], [], [], (refl, refl), went_none ticket_of scene_of old, refl)

  -- one more
  pub reached_more : (old mid : Deeds ticket_of scene_of) (count next : ℕ) (doc : DocId)
      (work : Work S)
      (now : List (Posting (Answered D))) (made : List StoreCall)
      (took : List (Item (Work S))) (told : Option (List (Posting (Answered D))))
      (store : Option (List StoreCall)) (passes : Option (List ℕ))
      → Reached old count mid
      → took ≡ mid.took ++ WorkItem doc work ∷ [] → Adds mid.posts now told
      → Adds mid.calls made store → Adds mid.passes (next ∷ []) passes
      → next ≡ min (count + 1) (2 ^ 64 - 1) → IsDone ticket_of scene_of doc work now made
      → Reached old next (record { took = took; posts = told; calls = store; passes = passes })
  reached_more old mid count next doc work now made took told store passes
      (works, posts, calls, done, went, is) t p c g then this =
      let grown =
      went_more ticket_of scene_of old mid (map item_of works)
      (WorkItem doc work) posts now calls made
      (length works) next took told store passes went t p c g
      (count_more (length works) count next is then) in
      let new : Deeds ticket_of scene_of =
      record { took = took; posts = told; calls = store; passes = passes } in (
        works ++ (doc, work) ∷ [],
        posts ++ now,
        calls ++ made,
        done_more ticket_of scene_of works posts calls doc work now made done this,
        subst (λ n. Went ticket_of scene_of old (map item_of (works ++ (doc, work) ∷ []))
            (posts ++ now) (calls ++ made) n new) (one_more works (doc, work))
            (subst (λ items. Went ticket_of scene_of old items (posts ++ now) (calls ++ made)
            (suc (length works)) new) (items_more works doc work) grown),
        subst (λ n. next ≡ min n (2 ^ 64 - 1)) (one_more works (doc, work))
            (count_more (length works) count next is then),
      )

  -- a close mark behind them
  pub ends_closed : (old mid : Deeds ticket_of scene_of) (count : ℕ) (took : List (Item (Work S)))
      → Reached old count mid → took ≡ mid.took ++ Close ∷ []
      → EndsWith ticket_of scene_of old Closed
      (record { took = took; posts = mid.posts; calls = mid.calls; passes = mid.passes })
  ends_closed old mid count took (works, posts, calls, done, went, is) t = (
    works,
    posts,
    calls,
    done,
    went_closed ticket_of scene_of old mid
        (map item_of works) posts calls (length works) took went t,
  )

  -- a work behind them that is left
  pub ends_left : (old mid : Deeds ticket_of scene_of) (count next : ℕ) (doc : DocId)
      (work : Work S)
      (now : List (Posting (Answered D))) (made : List StoreCall)
      (took : List (Item (Work S))) (told : Option (List (Posting (Answered D))))
      (store : Option (List StoreCall)) (passes : Option (List ℕ))
      → Reached old count mid
      → took ≡ mid.took ++ WorkItem doc work ∷ [] → Adds mid.posts now told
      → Adds mid.calls made store → Adds mid.passes (next ∷ []) passes
      → next ≡ min (count + 1) (2 ^ 64 - 1) → IsLeft ticket_of scene_of doc work now made
      → EndsWith ticket_of scene_of old Memory
      (record { took = took; posts = told; calls = store; passes = passes })
  ends_left old mid count next doc work now made took told store passes
      (works, posts, calls, done, went, is) t p c g then left = (
        works,
        posts,
        calls,
        (doc, work),
        now,
        made,
        done,
        left,
        went_more ticket_of scene_of old mid (map item_of works)
            (WorkItem doc work) posts now calls made
            (length works) next took told store passes went t p c g
            (count_more (length works) count next is then),
      )
