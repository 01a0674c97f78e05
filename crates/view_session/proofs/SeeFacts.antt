-- Slots of other keys that are seen, with what of them was on the screen.
use Rattle.std.proofs.Common.{◌≡◌, ◌≢◌, ℕ, suc, ◌+◌, ◌<◌, Bool, true, false, ◌||◌, cond, List, [], ◌∷◌, ◌++◌, length, take, drop, filter, get_or, Option, Some, None, refl, ap, sym, subst, ◌∙◌, inl, inr, append_assoc, append-nil}
use Rattle.std.specs.List.{AllByRecursion}
use Rattle.std.proofs.lemmas.List.{take_more}
use Rattle.tile_key.specs.Places.{Place, same_place}
use Rattle.tile_key.specs.Visible.{IsBefore}
use Rattle.document_machine.specs.Keys.{is_among, Pairwise}
use Rattle.document_machine.specs.Message.{asked_with, asked_with_all}
use Rattle.view_session.specs.Viewing.{Entry, with_entry, screen_after}
use Rattle.view_session.specs.Slots.{seen_in, screen_in, with_shown, IsSlotted}
use Rattle.view_session.specs.Moves.{shown_in, shown_again}
use Rattle.view_session.specs.declared.slots.OnScreen.{OnScreen}
use Rattle.view_session.specs.declared.slots.Slot.{Slot}
use Rattle.view_session.proofs.ListFacts.{all_keep, pairs_before}
use Rattle.view_session.proofs.OrderFacts.{same_is, not_back, apart_back}
use Rattle.view_session.proofs.FindFacts.{Comes}
use Rattle.view_session.proofs.SlotFacts.{all_shown, Others, Tells, TellsNone, entry_at, cut_at, tells, tells_none, where_is}
use Rattle.view_session.proofs.ShowFacts.{IsShown, shown_by, shown_none}

screen_join : (xs ys : List Slot) → screen_in (xs ++ ys) ≡ screen_in xs ++ screen_in ys
screen_join [] ys = refl
screen_join (x ∷ xs) ys =
    elim x.shown as (λ o. with_shown x.key o (screen_in (xs ++ ys)) ≡ with_shown x.key o (screen_in xs) ++ screen_in ys) [
      | None ↦ screen_join xs ys
      | Some shown ↦ ap (λ es. entry_at x.key shown ∷ es) (screen_join xs ys)
    ]

filter_join : {X : Type 0} (p : X → Bool) (xs ys : List X) → filter p (xs ++ ys) ≡ filter p xs ++ filter p ys
filter_join p [] ys = refl
filter_join p (x ∷ xs) ys =
    elim (p x) as (λ b. cond b (x ∷ filter p (xs ++ ys)) (filter p (xs ++ ys)) ≡ cond b (x ∷ filter p xs) (filter p xs) ++ filter p ys) [
      | true ↦ ap (λ zs. x ∷ zs) (filter_join p xs ys)
      | false ↦ filter_join p xs ys
    ]

-- an entry goes behind those that come before it
last_entry : (entries : List Entry) (key : Place) (version : ℕ) (stale : Bool) → AllByRecursion (λ entry. IsBefore entry.key key) entries → with_entry entries key version stale ≡ entries ++ record { key = key; version = version; stale = stale } ∷ []
last_entry [] key version stale a = refl
last_entry (e ∷ entries) key version stale a = rw (not_back e.key key a.0, apart_back e.key key a.0) (ap (λ es. e ∷ es) (last_entry entries key version stale a.1))

-- the view sees these keys, or asks for those
abbrev pub is_wanted : List Place → List Place → Entry → Bool
is_wanted keys asked entry = is_among keys entry.key || is_among asked entry.key

-- how far the screen is copied
pub record IsCopied (slots done : List Slot) (keys asked : List Place) : Type 0 where
  pub slotted : IsSlotted slots asked
  pub seen : seen_in slots ≡ keys
  pub screen : screen_in slots ≡ filter (is_wanted keys asked) (screen_in done)

-- one more slot, with nothing on the screen
copied_none : (slots old : List Slot) (keys asked : List Place) (i : ℕ) (slot : Slot) → IsCopied slots (take i old) keys asked → i < length old → slot ≡ get_or old i slot → slot.shown ≡ None → IsCopied slots (take (i + 1) old) keys asked
copied_none slots old keys asked i slot c lt e none =
    let more : take (i + 1) old ≡ take i old ++ slot ∷ [] = take_more old i slot lt ∙ ap (λ (s : Slot). take i old ++ s ∷ []) (sym e) in
    let blank : screen_in (slot ∷ []) ≡ [] = rw none refl in
    let same : screen_in (take (i + 1) old) ≡ screen_in (take i old) = ap screen_in more ∙ screen_join (take i old) (slot ∷ []) ∙ ap (λ es. screen_in (take i old) ++ es) blank ∙ append-nil (screen_in (take i old)) in
    record { slotted = c.slotted; seen = c.seen; screen = c.screen ∙ ap (filter (is_wanted keys asked)) (sym same) }

filter_one : (p : Entry → Bool) (b : Bool) (e : Entry) → p e ≡ b → filter p (e ∷ []) ≡ cond b (e ∷ []) []
filter_one p b e is = rw is refl

screen_more : (old : List Slot) (keys asked : List Place) (i : ℕ) (slot : Slot) (shown : OnScreen) (b : Bool) → i < length old → slot ≡ get_or old i slot → slot.shown ≡ Some shown → is_wanted keys asked (entry_at slot.key shown) ≡ b
    → filter (is_wanted keys asked) (screen_in (take (i + 1) old)) ≡ filter (is_wanted keys asked) (screen_in (take i old)) ++ cond b (entry_at slot.key shown ∷ []) []
screen_more old keys asked i slot shown b lt e some wanted =
    let more : take (i + 1) old ≡ take i old ++ slot ∷ [] = take_more old i slot lt ∙ ap (λ (s : Slot). take i old ++ s ∷ []) (sym e) in
    let one : screen_in (slot ∷ []) ≡ entry_at slot.key shown ∷ [] = rw some refl in
    ap (λ (x : List Slot). filter (is_wanted keys asked) (screen_in x)) more
    ∙ ap (filter (is_wanted keys asked)) (screen_join (take i old) (slot ∷ []) ∙ ap (λ es. screen_in (take i old) ++ es) one)
    ∙ filter_join (is_wanted keys asked) (screen_in (take i old)) (entry_at slot.key shown ∷ [])
    ∙ ap (λ es. filter (is_wanted keys asked) (screen_in (take i old)) ++ es) (filter_one (is_wanted keys asked) b (entry_at slot.key shown) wanted)

copied_wanted : (slots new old : List Slot) (keys asked : List Place) (i : ℕ) (slot : Slot) (shown : OnScreen) → Pairwise Comes old → IsCopied slots (take i old) keys asked → i < length old → slot ≡ get_or old i slot → slot.shown ≡ Some shown → new ≡ shown_in slots slot.key shown false → (is_among (seen_in slots) slot.key || is_among asked slot.key) ≡ true → IsCopied new (take (i + 1) old) keys asked
copied_wanted slots new old keys asked i slot shown order c lt e some is wanted =
    let s : IsShown slots new asked asked slot.key shown = shown_by slots new asked asked slot.key shown false c.slotted wanted is refl in
    let want : is_wanted keys asked (entry_at slot.key shown) ≡ true = subst (λ (ks : List Place). (is_among ks slot.key || is_among asked slot.key) ≡ true) c.seen wanted in
    let before_old : AllByRecursion (λ o. IsBefore o.key slot.key) (take i old) = pairs_before Comes (take i old) slot (drop (suc i) old) (subst (λ (x : List Slot). Pairwise Comes x) (cut_at old i slot lt e) order) in
    let before : AllByRecursion (λ entry. IsBefore entry.key slot.key) (filter (is_wanted keys asked) (screen_in (take i old))) = all_keep (λ (entry : Entry). IsBefore entry.key slot.key) (is_wanted keys asked) (screen_in (take i old)) (all_shown (λ key. IsBefore key slot.key) (take i old) before_old) in
    record {
      slotted = s.slotted;
      seen = s.seen ∙ c.seen;
      screen = s.screen
          ∙ ap (λ b. screen_after (screen_in slots) slot.key shown.version shown.stale b) wanted
          ∙ ap (λ (es : List Entry). with_entry es slot.key shown.version shown.stale) c.screen
          ∙ last_entry (filter (is_wanted keys asked) (screen_in (take i old))) slot.key shown.version shown.stale before
          ∙ sym (screen_more old keys asked i slot shown true lt e some want);
    }

copied_other : (slots new old : List Slot) (keys asked : List Place) (i : ℕ) (slot : Slot) (shown : OnScreen) → IsCopied slots (take i old) keys asked → i < length old → slot ≡ get_or old i slot → slot.shown ≡ Some shown → new ≡ shown_in slots slot.key shown false → Others slot.key slots → IsCopied new (take (i + 1) old) keys asked
copied_other slots new old keys asked i slot shown c lt e some is off =
    let t : TellsNone slots asked slot.key = tells_none slots asked slot.key c.slotted off in
    let seen_off : is_among keys slot.key ≡ false = subst (λ (ks : List Place). is_among ks slot.key ≡ false) c.seen t.seen in
    let want : is_wanted keys asked (entry_at slot.key shown) ≡ false = rw (seen_off, t.asking) refl in
    let same : new ≡ slots = is ∙ shown_none slots slot.key shown false off in
    rw same (record {
      slotted = c.slotted;
      seen = c.seen;
      screen = c.screen ∙ sym (append-nil (filter (is_wanted keys asked) (screen_in (take i old)))) ∙ sym (screen_more old keys asked i slot shown false lt e some want);
    })

-- one more slot, with something on the screen
copied_more : (slots new old : List Slot) (keys asked : List Place) (i : ℕ) (slot : Slot) (shown : OnScreen) → Pairwise Comes old → IsCopied slots (take i old) keys asked → i < length old → slot ≡ get_or old i slot → slot.shown ≡ Some shown → new ≡ shown_in slots slot.key shown false → IsCopied new (take (i + 1) old) keys asked
copied_more slots new old keys asked i slot shown order c lt e some is =
    elim (where_is slots slot.key c.slotted.order) [
      | inl p ↦ let t : Tells slots asked slot.key p.slot = tells slots asked slot.key p.front p.slot p.back c.slotted p.split in
          copied_wanted slots new old keys asked i slot shown order c lt e some is (rw (t.seen, t.asking) t.needed)
      | inr off ↦ copied_other slots new old keys asked i slot shown c lt e some is off
    ]

-- one more slot
pub copied_step : (slots new old : List Slot) (keys asked : List Place) (i : ℕ) (slot : Slot) → Pairwise Comes old → IsCopied slots (take i old) keys asked → i < length old → slot ≡ get_or old i slot → new ≡ shown_again slots slot.key slot.shown → IsCopied new (take (i + 1) old) keys asked
copied_step slots new old keys asked i slot order c lt e is =
    let go : (o : Option OnScreen) → slot.shown ≡ o → new ≡ shown_again slots slot.key o → IsCopied new (take (i + 1) old) keys asked = elim [
      | None ↦ λ none same. subst (λ (x : List Slot). IsCopied x (take (i + 1) old) keys asked) (sym same) (copied_none slots old keys asked i slot c lt e none)
      | Some shown ↦ λ some same. copied_more slots new old keys asked i slot shown order c lt e some same
    ] in
    go slot.shown refl is

-- ---- the asked keys once more

none_of : (done : List Place) (key : Place) (rest : List Place) → Pairwise (λ p q. p ≢ q) (done ++ key ∷ rest) → is_among done key ≡ false
none_of [] key rest p = refl
none_of (d ∷ done) key rest p =
    let go : (b : Bool) → same_place d key ≡ b → (b || is_among done key) ≡ false = elim [
      | true ↦ λ e. absurd (mid d done key rest p.0 (same_is d key e))
      | false ↦ λ e. none_of done key rest p.1
    ] in
    go (same_place d key) refl
  where
    mid : (d : Place) (done : List Place) (key : Place) (rest : List Place) → AllByRecursion (λ q. d ≢ q) (done ++ key ∷ rest) → d ≢ key
    mid d [] key rest a = a.0
    mid d (x ∷ done) key rest a = mid d done key rest a.1

asked_on : (rest done : List Place) → Pairwise (λ p q. p ≢ q) (done ++ rest) → asked_with_all done rest ≡ done ++ rest
asked_on [] done p = sym (append-nil done)
asked_on (key ∷ rest) done p =
    let fresh : is_among done key ≡ false = none_of done key rest p in
    let one : asked_with done key ≡ done ++ key ∷ [] = rw fresh refl in
    let again : (done ++ key ∷ []) ++ rest ≡ done ++ key ∷ rest = append_assoc done (key ∷ []) rest in
    ap (λ (ks : List Place). asked_with_all ks rest) one
    ∙ asked_on rest (done ++ key ∷ []) (subst (λ (ks : List Place). Pairwise (λ p q. p ≢ q) ks) (sym again) p)
    ∙ again

-- asked for one after the other, keys of which each is there once are themselves
pub asked_again : (asked : List Place) → Pairwise (λ p q. p ≢ q) asked → asked_with_all [] asked ≡ asked
asked_again asked p = asked_on asked [] p

-- before the first slot is copied
pub copied_first : (slots old : List Slot) (keys asked again : List Place) → Pairwise (λ p q. p ≢ q) asked → again ≡ asked_with_all [] asked → IsSlotted slots again → seen_in slots ≡ keys → screen_in slots ≡ [] → IsCopied slots (take 0 old) keys asked
copied_first slots old keys asked again once is k seen blank =
    record { slotted = subst (λ (x : List Place). IsSlotted slots x) (is ∙ asked_again asked once) k; seen = seen; screen = blank }
