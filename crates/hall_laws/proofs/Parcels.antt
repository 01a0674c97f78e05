-- A parcel lies where it was left until it arrives.
use Rattle.std.proofs.Common.{◌≡◌, ◌≢◌, ℕ, ◌+◌, ◌-◌, ◌<◌, ◌≤◌, Bool, true, false, Some, List, []}
use Rattle.std.proofs.Common.{◌∷◌, ◌++◌, length, get_or, drop, eqb, ltb, refl, sym, ap, subst, ◌∙◌}
use Rattle.std.proofs.Common.{arith, length-append}
use Rattle.std.specs.List.{slice_get, remove}
use Rattle.std.proofs.lemmas.Bool.{eqb-true}
use Rattle.std.proofs.lemmas.List.{length-map, length-set, get_or-set_same, get_or-set_other}
use Rattle.std.proofs.Math.ListN.{get_or-append}
use Rattle.std.proofs.lemmas.List.Edits.{length-remove, get_or-remove_below, get_or-remove_above}
use Rattle.std.proofs.lemmas.Option.{slice_get_within, slice_get-get_or, get_or_from_slice_get}
use Rattle.hall_machine.specs.declared.words.Label.{Label}
use Rattle.hall_machine.specs.declared.words.Entered.TheVariants.{There, Fresh}
use Rattle.hall_machine.specs.declared.words.OpenDocument.{OpenDocument}
use Rattle.hall_machine.specs.declared.words.Holder.TheVariants.{At, To}
use Rattle.hall_machine.specs.Machine.{Desk, desk_at, place_of}
use Rattle.hall_machine.specs.States.{sight, sights, Changes}
use Rattle.hall_machine.proofs.Places.{desk_seen}
use Rattle.hall_machine.proofs.Rising.{found_there}
use Rattle.hall_laws.proofs.Lookups.{same_eqb}
use Rattle.hall_laws.specs.Parcels.{Deed, entered, posted, collected, departed, arrived, closed}
use Rattle.hall_laws.specs.Parcels.{Does, AreSorted, Runs, Leaves}

-- the document is open, and this parcel is on its way
record Holds {P M : Type 0} (doc to : ℕ) (parcel : P)
    (opens : List (OpenDocument P M)) : Type 0 where
  spot : ℕ
  item : OpenDocument P M
  within : spot < length opens
  is : get_or opens spot item ≡ item
  id : item.doc ≡ doc
  has : item.holder ≡ To to parcel

module _ {P M : Type 0} (doc to : ℕ) (parcel : P) where
  -- what stands at one place is one
  one_there : (old : List (OpenDocument P M)) (h : Holds doc to parcel old) (j : ℕ)
      (found : OpenDocument P M) → slice_get old j ≡ Some found → h.spot ≡ j → h.item ≡ found
  one_there old h j found there e = sym h.is
      ∙ (ap (λ k. get_or old k h.item) e ∙ get_or_from_slice_get old j found h.item there)

  item_is : (old : List (OpenDocument P M)) (h : Holds doc to parcel old)
      (found : OpenDocument P M) → h.item ≡ found → (found.doc ≡ doc)
      × (found.holder ≡ To to parcel)
  item_is old h found e = (
    sym (ap (λ (o : OpenDocument P M). o.doc) e)
        ∙ h.id,
    sym (ap (λ (o : OpenDocument P M). o.holder) e) ∙ h.has,
  )

  keeps_apart : (d : ℕ) (old new : List (OpenDocument P M)) (found made : OpenDocument P M)
      (ch : Changes d old new found made) (h : Holds doc to parcel old) → h.spot ≢ ch.place
      → Holds doc to parcel new
  keeps_apart d old new found made ch h apart = record {
    spot = h.spot;
    item = h.item;
    within = subst (λ os. h.spot < length os) (sym ch.is)
        (let w = h.within in let l = length-set old ch.place made in omega arith);
    is = ap (λ os. get_or os h.spot h.item) ch.is
        ∙ (get_or-set_other old ch.place h.spot made h.item apart ∙ h.is);
    id = h.id;
    has = h.has;
  }

  -- an open document changed, and this one has its id and its place as before
  keeps_same : (d : ℕ) (old new : List (OpenDocument P M)) (found made : OpenDocument P M)
      (ch : Changes d old new found made) → made.doc ≡ found.doc → made.holder ≡ found.holder
      → (h : Holds doc to parcel old) → (b : Bool) → eqb h.spot ch.place ≡ b
      → Holds doc to parcel new
  keeps_same d old new found made ch ids places h true e =
      let same : h.spot ≡ ch.place = eqb-true h.spot ch.place e in
      let at : h.item ≡ found = one_there old h ch.place found ch.was same in
      let was = item_is old h found at in
      let within : ch.place < length old = slice_get_within old ch.place found ch.was in
      record {
        spot = ch.place;
        item = made;
        within = subst (λ os. ch.place < length os) (sym ch.is)
            (let l = length-set old ch.place made in omega arith);
        is = ap (λ os. get_or os ch.place made) ch.is
            ∙ get_or-set_same old ch.place made made within;
        id = ids ∙ was.0;
        has = places ∙ was.1;
      }
  keeps_same d old new found made ch ids places h false e = keeps_apart d old new found made ch h
      (λ same. (let t : eqb h.spot ch.place ≡ true = ap (λ k. eqb h.spot k) (sym same)
      ∙ same_eqb h.spot in cc))

  -- another open document changed
  keeps_other : (d : ℕ) (old new : List (OpenDocument P M)) (found made : OpenDocument P M)
      → Changes d old new found made → d ≢ doc → Holds doc to parcel old → Holds doc to parcel new
  keeps_other d old new found made ch other h = keeps_apart d old new found made ch h
      (λ same. other (sym ch.id
      ∙ (item_is old h found (one_there old h ch.place found ch.was same)).0))

  -- a new document
  keeps_more : (old new : List (OpenDocument P M)) (more : OpenDocument P M)
      → new ≡ old ++ more ∷ [] → Holds doc to parcel old → Holds doc to parcel new
  keeps_more old new more e h = record {
    spot = h.spot;
    item = h.item;
    within = subst (λ os. h.spot < length os) (sym e)
        (let l = length-append old (more ∷ []) in let w = h.within in omega arith);
    is = ap (λ os. get_or os h.spot h.item) e
        ∙ (get_or-append old (more ∷ []) h.item h.spot h.within ∙ h.is);
    id = h.id;
    has = h.has;
  }

  -- another document was closed
  keeps_closed : (old new : List (OpenDocument P M)) (i : ℕ) (o : OpenDocument P M)
      → slice_get old i ≡ Some o → o.doc ≢ doc → new ≡ remove old i → (h : Holds doc to parcel old)
      → (b : Bool) → ltb h.spot i ≡ b → Holds doc to parcel new
  keeps_closed old new i o there other e h true t =
      let below : h.spot < i = grind arith in
      let within : i < length old = slice_get_within old i o there in
      record {
        spot = h.spot;
        item = h.item;
        within = subst (λ os. h.spot < length os) (sym e)
            (let l = length-remove old i within in omega arith);
        is = ap (λ os. get_or os h.spot h.item) e
            ∙ (get_or-remove_below old i h.item h.spot below within ∙ h.is);
        id = h.id;
        has = h.has;
      }
  keeps_closed old new i o there other e h false t =
      let apart : h.spot ≢ i = λ same. other (item_is old h o (one_there old h i o there same)).0 in
      let least : i ≤ h.spot = grind arith in
      let above : i < h.spot = omega arith in
      let within : i < length old = slice_get_within old i o there in
      let w = h.within in
      let next : (h.spot - 1) + 1 ≡ h.spot = omega arith in
      record {
        spot = h.spot - 1;
        item = h.item;
        within = subst (λ os. h.spot - 1 < length os) (sym e)
            (let l = length-remove old i within in omega arith);
        is = ap (λ os. get_or os (h.spot - 1) h.item) e
            ∙ (get_or-remove_above old i h.item (h.spot - 1) (omega arith) within
            ∙ (ap (λ k. get_or old k h.item) next ∙ h.is));
        id = h.id;
        has = h.has;
      }

  -- a call that leaves the document
  keeps : (d : Deed P M) (ds : List (Deed P M)) (old new : List (OpenDocument P M))
      → Leaves doc (d ∷ ds) → Does d old new → Holds doc to parcel old → Holds doc to parcel new
      × Leaves doc ds
  keeps (entered who file (There e)) ds old new l does h =
      (subst (λ os. Holds doc to parcel os) (sym does) h, l)
  keeps (entered who file (Fresh e)) ds old new l does h = (
    keeps_more old new (record { doc = e.0; file = file; holder = At who; mails = [] }) does h,
    l,
  )
  keeps (posted d mail) ds old new l does h = (
    keeps_same d old new does.0
        (record does.0 { mails = does.0.mails ++ mail ∷ [] }) does.1 refl refl h
        (eqb h.spot does.1.place) refl,
    l,
  )
  keeps (collected d bag) ds old new l does h = (
    keeps_same d old new does.0
        (record does.0 { mails = drop 64 does.0.mails }) does.1 refl refl h
        (eqb h.spot does.1.place) refl,
    l,
  )
  keeps (departed d t p) ds old new l does h =
      (keeps_other d old new does.0 (record does.0 { holder = To t p }) does.1 l.0 h, l.1)
  keeps (arrived who d p) ds old new l does h =
      (keeps_other d old new does.0 (record does.0 { holder = At who }) does.1 l.0 h, l.1)
  keeps (closed d) ds old new l does h = (
    keeps_closed old new does.0 does.1 does.2 (λ e. l.0 (sym does.3 ∙ e)) does.5 h
        (ltb h.spot does.0) refl,
    l.1,
  )

  -- the ids tell the place
  one_place : (tag : M → Label) (opens : List (OpenDocument P M)) → AreSorted tag opens
      → (i j : ℕ) (o p : OpenDocument P M) → slice_get opens i ≡ Some o
      → slice_get opens j ≡ Some p → o.doc ≡ p.doc → i ≡ j
  one_place tag opens sorted i j o p a b e =
      let wi : i < length (sights tag opens) =
      (let w = slice_get_within opens i o a in let l = length-map opens
      (sight tag) in omega arith) in
      let wj : j < length (sights tag opens) =
      (let w = slice_get_within opens j p b in let l = length-map opens
      (sight tag) in omega arith) in
      let fi : place_of (desk_at (sights tag opens) i).doc (sights tag opens)
      ≡ Some i = found_there 0 (sights tag opens) sorted.0 i wi sorted.1 in
      let fj : place_of (desk_at (sights tag opens) j).doc (sights tag opens)
      ≡ Some j = found_there 0 (sights tag opens) sorted.0 j wj sorted.1 in
      let si : (desk_at (sights tag opens) i).doc
      ≡ o.doc = ap (λ (x : Desk). x.doc) (desk_seen tag opens i o a) in
      let sj : (desk_at (sights tag opens) j).doc
      ≡ p.doc = ap (λ (x : Desk). x.doc) (desk_seen tag opens j p b) in
      let both : Some i ≡ Some j = sym fi
      ∙ (ap (λ d. place_of d (sights tag opens)) (si ∙ (e ∙ sym sj)) ∙ fj) in
      cc

  -- it arrives
  arrives : (tag : M → Label) (old new : List (OpenDocument P M)) (who : ℕ) (given : P)
      → AreSorted tag old → Holds doc to parcel old → Does (arrived who doc given) old new
      → (given ≡ parcel) × (who ≡ to)
  arrives tag old new who given sorted h does =
      let there : slice_get old h.spot ≡ Some h.item = slice_get-get_or old h.spot h.item h.within
      ∙ ap (λ o. Some o) h.is in
      let same : h.spot ≡ does.1.place = one_place tag old sorted h.spot does.1.place h.item does.0
      there does.1.was (h.id ∙ sym does.1.id) in
      let was = item_is old h does.0 (one_there old h does.1.place does.0 does.1.was same) in
      let e : To who given ≡ To to parcel = sym does.2 ∙ was.1 in
      (cc, cc)

  run_arrives : (tag : M → Label) (old new : List (OpenDocument P M)) (who : ℕ) (given : P)
      (between : List (Deed P M)) → AreSorted tag old → Holds doc to parcel old
      → Leaves doc between → Runs tag old (between ++ arrived who doc given ∷ []) new
      → (given ≡ parcel) × (who ≡ to)
  run_arrives tag old new who given [] sorted h l r = arrives tag old r.0 who given sorted h r.1
  run_arrives tag old new who given (d ∷ ds) sorted h l r =
      let k = keeps d ds old r.0 l r.1 h in
      run_arrives tag r.0 new who given ds r.2 k.0 k.1 r.3

pub parcel_arrives : {P M : Type 0} (tag : M → Label) (old new : List (OpenDocument P M))
    (doc to who : ℕ) (left given : P) (between : List (Deed P M)) → AreSorted tag old
    → Runs tag old (departed doc to left ∷ (between ++ arrived who doc given ∷ [])) new
    → Leaves doc between → (given ≡ left) × (who ≡ to)
parcel_arrives {P} {M} tag old new doc to who left given between sorted r l =
    let o : OpenDocument P M = r.1.0 in
    let ch = r.1.1 in
    let made : OpenDocument P M = record o { holder = To to left } in
    let within : ch.place < length old = slice_get_within old ch.place o ch.was in
    let h : Holds doc to left r.0 = record {
      spot = ch.place;
      item = made;
      within = subst (λ os. ch.place < length os) (sym ch.is)
          (let n = length-set old ch.place made in omega arith);
      is = ap (λ os. get_or os ch.place made) ch.is ∙ get_or-set_same old ch.place made made within;
      id = ch.id;
      has = refl;
    } in
    run_arrives doc to left tag r.0 new who given between r.2 h l r.3
