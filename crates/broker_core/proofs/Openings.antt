-- A document as it is loaded.
use Rattle.std.proofs.Common.{◌≡◌, ◌≤◌, ℕ, ◌<◌, true, List, [], refl, sym, ap, subst}
use Rattle.kit_trait.specs.Rules.{Rules}
use Rattle.kit_trait.specs.declared.values.Input.{Input}
use Rattle.save_core.specs.Saving.{Saving, opening}
use Rattle.tile_cache.specs.Cached.{Cached}
use Rattle.tile_cache.specs.Calls.{empty}
use Rattle.tile_key.specs.Places.{Place}
use Rattle.document_machine.specs.Due.{parts_of}
use Rattle.document_machine.specs.Held.{opening_held}
use Rattle.document_machine.specs.State.{Job}
use Rattle.broker_core.specs.Held.{Holds, held_of}
use Rattle.broker_core.specs.declared.members.Member.{Member}
use Rattle.document_laws.proofs.Moving.{opening_held_keeps}

-- a document as it is loaded has all that a broker keeps
pub holds_opening : {C B S : Type 0} (rules : Rules C B) (cut : C → Place → S) (IsSound : C → Type 0) (contents : C) (file base : List ℕ) → rules.accepts base ≡ true → contents ≡ rules.start base → IsSound contents → 1 ≤ parts_of rules base → Holds rules cut IsSound contents [] empty (opening_held {S = S} file base)
holds_opening rules cut IsSound contents file base accepted is sound some = record {
  kept = opening_held_keeps rules cut file base accepted;
  views_are = refl;
  contents_are = is;
  sound = sound;
  parts_are = ap (λ c. rules.parts (rules.body c)) is;
  sizes_are = λ part. ap (λ c. rules.size (rules.body c) part) is;
  some_part = some;
  tracked = tt;
  forms = tt;
  ticket_is = refl;
  kept_are = refl;
  cached = record { tiles = tt; outs = refl };
}

-- the same of the parts that a broker is made of: no inputs, no views and no jobs, a cache that is new, and
-- what is known of the saves of a loaded file
pub holds_opened : {C B S : Type 0} (rules : Rules C B) (cut : C → Place → S) (IsSound : C → Type 0) (contents : C) (file base : List ℕ)
    → (journal : List Input) (members : List Member) (jobs : List (Job S)) (cache : Cached) (saving : Saving)
    → journal ≡ [] → members ≡ [] → jobs ≡ [] → cache ≡ empty → saving ≡ opening
    → rules.accepts base ≡ true → contents ≡ rules.start base → IsSound contents → 1 ≤ parts_of rules base
    → Holds rules cut IsSound contents members cache (held_of {S = S} file base journal 0 members 0 jobs cache saving)
holds_opened {S = S} rules cut IsSound contents file base journal members jobs cache saving journal_is members_are jobs_are cache_is saving_is accepted is sound some =
    subst (λ (is : List Input). Holds rules cut IsSound contents members cache (held_of {S = S} file base is 0 members 0 jobs cache saving)) (sym journal_is)
    (subst (λ (ms : List Member). Holds rules cut IsSound contents ms cache (held_of {S = S} file base [] 0 ms 0 jobs cache saving)) (sym members_are)
    (subst (λ (js : List (Job S)). Holds rules cut IsSound contents [] cache (held_of {S = S} file base [] 0 [] 0 js cache saving)) (sym jobs_are)
    (subst (λ (t : Cached). Holds rules cut IsSound contents [] t (held_of {S = S} file base [] 0 [] 0 [] t saving)) (sym cache_is)
    (subst (λ (s : Saving). Holds rules cut IsSound contents [] empty (held_of {S = S} file base [] 0 [] 0 [] empty s)) (sym saving_is)
    (holds_opening rules cut IsSound contents file base accepted is sound some)))))
