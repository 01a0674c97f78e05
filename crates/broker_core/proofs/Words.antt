-- The machine's words of a view, and the view's own.
use Rattle.std.proofs.Common.{◌≡◌, ℕ, ◌+◌, Bool, true, false, not, ◌&&◌, ◌||◌, cond, List, [], ◌∷◌, ◌++◌, length, map, Option, Some, refl, sym, ap, ◌∙◌, rules, nat_eq}
use Rattle.std.specs.Prelude.{option_map}
use Rattle.std.specs.List.{list_any, list_all, AllByRecursion}
use Rattle.std.specs.Ordering.{is_lt}
use Rattle.kit_trait.specs.Rules.{Rules}
use Rattle.tile_key.specs.Places.{Place, key_order, same_place}
use Rattle.document_machine.specs.Due.{touched, visible, keys, version_of, is_lacking, is_due, has_room, is_current, is_newer, with_version, without_version, screen_after, asked_after, sent, takes}
use Rattle.document_machine.specs.Keys.{is_among, ordered}
use Rattle.document_machine.specs.Quiet.{is_still}
use Rattle.document_machine.specs.State.{Document, View}
use Rattle.view_session.specs.Viewing as viewing
use Rattle.view_session.specs.Viewing.{Viewing, Entry, entry_of, version_on, with_entry, without_entry}
use Rattle.view_session.proofs.OrderFacts.{same_is}
use Rattle.broker_core.specs.Held.{IsTracked}
use Rattle.broker_core.specs.Members.{shown_of, view_of, views_of}
use Rattle.broker_core.specs.Serving as serving
use Rattle.broker_core.specs.declared.members.Member.{Member}

pub keys_same : {C B S : Type 0} (rules : Rules C B) (d : Document S) (member : Member) → IsTracked rules d.base d.journal d.applied member → keys rules d (view_of member) ≡ viewing.keys member.view
keys_same rules d member s = ap (λ (vs : List Place). ordered member.view.asked vs) (sym s.seen)

-- a screen's version of a key
pub version_same : (screen : List Entry) (key : Place) → version_of (map shown_of screen) key ≡ option_map (λ (e : Entry). e.version) (entry_of screen key)
version_same [] key = refl
version_same (entry ∷ screen) key =
    elim (same_place entry.key key) as (λ b. cond b (Some entry.version) (version_of (map shown_of screen) key) ≡ option_map (λ (e : Entry). e.version) (cond b (Some entry) (entry_of screen key))) [
      | true ↦ refl
      | false ↦ version_same screen key
    ]

-- a screen lacks the present tile of the key
lacking_same : {C B S : Type 0} (rules : Rules C B) (d : Document S) (screen : List Entry) (key : Place) → AllByRecursion (λ (e : Entry). e.stale ≡ touched rules d.base d.journal e.version e.key d.applied) screen → is_lacking rules d key (version_of (map shown_of screen) key) ≡ viewing.is_lacking (entry_of screen key)
lacking_same rules d [] key marks = refl
lacking_same rules d (entry ∷ screen) key marks =
    let go : (b : Bool) → same_place entry.key key ≡ b → is_lacking rules d key (cond b (Some entry.version) (version_of (map shown_of screen) key)) ≡ viewing.is_lacking (cond b (Some entry) (entry_of screen key)) = elim [
      | true ↦ λ same. ap (λ (k : Place). touched rules d.base d.journal entry.version k d.applied) (sym (same_is entry.key key same)) ∙ sym marks.0
      | false ↦ λ _. lacking_same rules d screen key marks.1
    ] in
    go (same_place entry.key key) refl

-- a key is due
pub due_same : {C B S : Type 0} (rules : Rules C B) (d : Document S) (member : Member) (key : Place) → IsTracked rules d.base d.journal d.applied member → is_due rules d (view_of member) key ≡ viewing.is_due member.view key
due_same rules d member key s =
    let v : Viewing = member.view in
    ap (λ (vs : List Place). (is_among vs key && is_lacking rules d key (version_of (map shown_of v.screen) key)) || is_among v.asked key) (sym s.seen)
    ∙ ap (λ b. (is_among v.visible key && b) || is_among v.asked key) (lacking_same rules d v.screen key s.marks)

-- a painted tile is taken
pub takes_same : {C B S : Type 0} (rules : Rules C B) (d : Document S) (version : ℕ) (key : Place) (member : Member) → IsTracked rules d.base d.journal d.applied member → takes rules d version key (view_of member) ≡ serving.takes key version member.view
takes_same rules d version key member s =
    let v : Viewing = member.view in
    ap (λ (had : Option ℕ). is_newer had version (is_among v.asked key) && (is_due rules d (view_of member) key && has_room (view_of member))) (version_same v.screen key)
    ∙ ap (λ b. is_newer (version_on v key) version (is_among v.asked key) && (b && has_room (view_of member))) (due_same rules d member key s)

-- a screen with a version put in
with_same : (screen : List Entry) (key : Place) (version : ℕ) (stale : Bool) → with_version (map shown_of screen) key version ≡ map shown_of (with_entry screen key version stale)
with_same [] key version stale = refl
with_same (entry ∷ screen) key version stale =
    elim (is_lt (key_order key entry.key)) as (λ a. cond a (record { key = key; version = version } ∷ (shown_of entry ∷ map shown_of screen)) (cond (same_place key entry.key) (record { key = key; version = version } ∷ map shown_of screen) (shown_of entry ∷ with_version (map shown_of screen) key version)) ≡ map shown_of (cond a (record { key = key; version = version; stale = stale } ∷ (entry ∷ screen)) (cond (same_place key entry.key) (record { key = key; version = version; stale = stale } ∷ screen) (entry ∷ with_entry screen key version stale)))) [
      | true ↦ refl
      | false ↦ elim (same_place key entry.key) as (λ b. cond b (record { key = key; version = version } ∷ map shown_of screen) (shown_of entry ∷ with_version (map shown_of screen) key version) ≡ map shown_of (cond b (record { key = key; version = version; stale = stale } ∷ screen) (entry ∷ with_entry screen key version stale))) [
        | true ↦ refl
        | false ↦ ap (λ es. shown_of entry ∷ es) (with_same screen key version stale)
      ]
    ]

-- a screen with a version taken out
without_same : (screen : List Entry) (key : Place) → without_version (map shown_of screen) key ≡ map shown_of (without_entry screen key)
without_same [] key = refl
without_same (entry ∷ screen) key =
    elim (same_place entry.key key) as (λ b. cond (not b) (shown_of entry ∷ without_version (map shown_of screen) key) (without_version (map shown_of screen) key) ≡ map shown_of (cond (not b) (entry ∷ without_entry screen key) (without_entry screen key))) [
      | true ↦ without_same screen key
      | false ↦ ap (λ es. shown_of entry ∷ es) (without_same screen key)
    ]

screen_same : (screen : List Entry) (key : Place) (version : ℕ) (stale wanted : Bool) → screen_after (map shown_of screen) key version wanted ≡ map shown_of (viewing.screen_after screen key version stale wanted)
screen_same screen key version stale true = with_same screen key version stale
screen_same screen key version stale false = without_same screen key

-- a tile is sent
pub sent_same : {C B S : Type 0} (rules : Rules C B) (d : Document S) (version : ℕ) (key : Place) (current : Bool) (member : Member) → is_current rules d version key ≡ current → IsTracked rules d.base d.journal d.applied member → sent rules d version key (view_of member) ≡ view_of (record member { view = viewing.sent key version current member.view })
sent_same {C} {B} {S} rules d version key current member is s =
    let v : Viewing = member.view in
    let with_it : Bool → List Place → View = λ now vs.
    let asked = asked_after v.asked key now in
    record (view_of member) {
      asked = asked;
      screen = screen_after (map shown_of v.screen) key version (is_among vs key || is_among asked key);
      window = v.window ++ record { wid = v.next_wid; key = key } ∷ [];
      next_wid = v.next_wid + 1;
    } in
    let first : sent rules d version key (view_of member) ≡ with_it current (visible rules d (view_of member)) = ap (λ b. with_it b (visible rules d (view_of member))) is in
    let second : with_it current (visible rules d (view_of member)) ≡ with_it current v.visible = ap (λ (vs : List Place). with_it current vs) (sym s.seen) in
    first ∙ second
    ∙ ap (λ es. record (with_it current v.visible) { screen = es }) (screen_same v.screen key version (not current) (is_among v.visible key || is_among (asked_after v.asked key current) key))

any_same : {X : Type 0} (p q : X → Bool) → ((x : X) → p x ≡ q x) → (xs : List X) → list_any p xs ≡ list_any q xs
any_same p q same [] = refl
any_same p q same (x ∷ xs) = ap (λ b. b || list_any p xs) (same x) ∙ ap (λ b. q x || b) (any_same p q same xs)

-- nothing is left to do for a view
pub still_same : {C B S : Type 0} (rules : Rules C B) (d : Document S) (member : Member) → IsTracked rules d.base d.journal d.applied member → is_still rules d (view_of member) ≡ serving.is_still member.view
still_same rules d member s =
    let v : Viewing = member.view in
    ap (λ (vs : List Place). nat_eq (length v.window) 0 && (not (list_any (is_due rules d (view_of member)) vs) && nat_eq (length v.asked) 0)) (sym s.seen)
    ∙ ap (λ b. nat_eq (length v.window) 0 && (not b && nat_eq (length v.asked) 0)) (any_same (is_due rules d (view_of member)) (viewing.is_due v) (λ key. due_same rules d member key s) v.visible)

pub stills_same : {C B S : Type 0} (rules : Rules C B) (d : Document S) (members : List Member) → AllByRecursion (IsTracked rules d.base d.journal d.applied) members → list_all (is_still rules d) (views_of members) ≡ list_all (λ (member : Member). serving.is_still member.view) members
stills_same rules d [] all = refl
stills_same rules d (member ∷ members) all =
    ap (λ b. b && list_all (is_still rules d) (views_of members)) (still_same rules d member all.0)
    ∙ ap (λ b. serving.is_still member.view && b) (stills_same rules d members all.1)
