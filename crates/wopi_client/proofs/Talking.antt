-- From what is written and read over a wire to a talk.
use Rattle.std.proofs.Common.{◌≡◌, ℕ, Bool, true, false, ◌||◌, List, [], ◌∷◌, ◌++◌, refl, sym, ap, ◌∙◌, subst, Option, Some, None, Result, Ok, Err, inl}
use Rattle.std.specs.Option.{option_map}
use Rattle.std.proofs.lemmas.List.{append-nil}
use Rattle.outside.specs.declared.faults.WireFault.TheVariants.{BadHead, HeadTooLong, BodyTooLong, BadChunk, CutOff, ReadFault, WriteFault}
use Rattle.outside.specs.declared.faults.StoreFault.{StoreFault}
use Rattle.outside.specs.declared.faults.StoreFault.TheVariants.{Wire}
use Rattle.outside.specs.Wires.{Talk, silence, with_received, Says, Hears}
use Rattle.wire_body.specs.declared.faults.HttpFault.{HttpFault}
use Rattle.wire_body.specs.declared.faults.HttpFault.TheVariants as Http
use Rattle.http_wire.specs.Messages.{ReadsMessage}
use Rattle.http_wire.specs.Kinds.{responses}
use Rattle.http_write.specs.Texts.{request_bytes}
use Rattle.http_write.specs.Writes.{Writes}
use Rattle.wopi_dial.specs.Dials.{DialTold, dialled, hung_up, IsFresh, with_talk}
use Rattle.wopi_client.specs.declared.asks.Ask.{Ask}
use Rattle.wopi_client.specs.declared.asks.Told.{Told}
use Rattle.wopi_client.specs.Asks.{request_for}
use Rattle.wopi_client.specs.Stores.{Then, AskedTwice}
use Rattle.wopi_client.specs.Talks.{store_fault, is_cut_short, WentOut, Talked, after_talk, TalksOver, HearsOver, AskedOnce}

-- a fault of reading is heard
pub heard_fault : (ask : Ask) (old new : Option Talk) (fault : HttpFault) → ReadsMessage responses old new (Err fault) → HearsOver ask old new (Err (store_fault fault))
heard_fault ask old new Http.Memory (bytes, ended, heard, said) = (bytes, ended, heard, tt)
heard_fault ask old new (Http.Wire BadHead) (bytes, ended, heard, said) = (bytes, ended, heard, said)
heard_fault ask old new (Http.Wire HeadTooLong) (bytes, ended, heard, said) = (bytes, ended, heard, said)
heard_fault ask old new (Http.Wire BodyTooLong) (bytes, ended, heard, said) = (bytes, ended, heard, said)
heard_fault ask old new (Http.Wire BadChunk) (bytes, ended, heard, said) = (bytes, ended, heard, said)
heard_fault ask old new (Http.Wire CutOff) (bytes, ended, heard, said) = (bytes, ended, heard, said)
heard_fault ask old new (Http.Wire ReadFault) (bytes, ended, heard, said) = (bytes, ended, heard, said)
heard_fault ask old new (Http.Wire WriteFault) (bytes, ended, heard, said) = absurd said.1

-- all bytes went out
all_out : (b : Bool) (bytes : List ℕ) → WentOut b bytes bytes
all_out false bytes = refl
all_out true bytes = ([], sym (append-nil bytes))

-- what is said and then heard
both : (old mid new : Option Talk) (bytes received : List ℕ) (ended : Bool) → Says old bytes mid → Hears mid received ended new
    → new ≡ option_map (after_talk (record { sent = bytes; received = received; ended = ended })) old
both None mid new bytes received ended said heard = heard ∙ ap (option_map (with_received received ended)) said
both (Some t) mid new bytes received ended said heard = heard ∙ ap (option_map (with_received received ended)) said

-- the request went out, and the answer was heard
pub talk_heard : (host : List ℕ) (ask : Ask) (old mid new : Option Talk) (result : Result Told StoreFault)
    → Says old (request_bytes host (request_for ask)) mid → HearsOver ask mid new result → TalksOver host ask old new result
talk_heard host ask old mid new result said (received, ended, heard, answer) = (
  record { sent = request_bytes host (request_for ask); received = received; ended = ended },
  both old mid new (request_bytes host (request_for ask)) received ended said heard,
  record { asked = all_out (is_cut_short result) (request_bytes host (request_for ask)); heard = answer },
)

-- nothing was heard
only_said : (old new : Option Talk) (done : List ℕ) → Says old done new → new ≡ option_map (after_talk (record { sent = done; received = []; ended = false })) old
only_said None new done said = said
only_said (Some t) new done said = said ∙ (λ i. Some (record t { sent = t.sent ++ done; received = sym (append-nil t.received) i }))

nothing_said : (old new : Option Talk) → new ≡ old → Says old [] new
nothing_said None new same = same
nothing_said (Some t) new same = same ∙ (λ i. Some (record t { sent = sym (append-nil t.sent) i }))

-- the request did not go out whole
pub talk_failed : (host : List ℕ) (ask : Ask) (old new : Option Talk) (fault : HttpFault)
    → Writes old (request_bytes host (request_for ask)) (Err fault) new → TalksOver host ask old new (Err (store_fault fault))
talk_failed host ask old new Http.Memory same =
    (record { sent = []; received = []; ended = false }, only_said old new [] (nothing_said old new same), record { asked = (request_bytes host (request_for ask), refl); heard = tt })
talk_failed host ask old new (Http.Wire fault) (is, (done, rest, parts, said)) = (
  record { sent = done; received = []; ended = false },
  only_said old new done said,
  subst (λ f. Talked host ask (record { sent = done; received = []; ended = false }) (Err (Wire f))) (sym is)
      (record { asked = (rest, parts); heard = (refl, refl) }),
)

or_false : (b : Bool) → (b || false) ≡ b
or_false true = refl
or_false false = refl

-- a talk over a new wire is one that the dial tells
pub told_talk : (told : Option DialTold) (old new : Option Talk) (talk : Talk) → IsFresh told old → new ≡ option_map (after_talk talk) old
    → with_talk told new ≡ option_map (hung_up talk) told
told_talk None old new talk fresh is = refl
told_talk (Some told) old new talk fresh is =
    let e : new ≡ Some (after_talk talk silence) = is ∙ ap (option_map (after_talk talk)) fresh in
    ap (option_map (λ one. hung_up one told)) e ∙ (λ i. Some (hung_up (record talk { ended = or_false talk.ended i }) told))

-- a dial and then a talk that is hung up
dialled_and_hung : (talk : Talk) (told : Option DialTold) → option_map (hung_up talk) (option_map dialled told) ≡ option_map (λ t. hung_up talk (dialled t)) told
dialled_and_hung talk None = refl
dialled_and_hung talk (Some told) = refl

-- one talk was had
pub asked_once : (host : List ℕ) (ask : Ask) (told told1 told2 : Option DialTold) (old new : Option Talk) (result : Result Told StoreFault)
    → told1 ≡ option_map dialled told → IsFresh told1 old → TalksOver host ask old new result → told2 ≡ with_talk told1 new → AskedOnce host ask told told2 result
asked_once host ask told told1 told2 old new result same fresh (talk, is, talked) hung =
    inl (talk, hung ∙ told_talk told1 old new talk fresh is ∙ (ap (option_map (hung_up talk)) same ∙ dialled_and_hung talk told), talked)

-- one talk and then another, by a store that names the same host in both
pub then_two : (host later : List ℕ) (one two : Ask) (told1 mid told2 : Option DialTold) (told : Told) (last : Result Told StoreFault)
    → later ≡ host → AskedOnce host one told1 mid (Ok told) → AskedOnce later two mid told2 last → AskedTwice host one two told1 told2 last
then_two host later one two told1 mid told2 told last same had next =
    (mid, Ok told, had, subst (λ h. AskedOnce h two mid told2 last) same next)

-- a talk that was refused, and no other
pub then_none : (host : List ℕ) (one two : Ask) (told mid : Option DialTold) (fault : StoreFault)
    → AskedOnce host one told mid (Err fault) → AskedTwice host one two told mid (Err fault)
then_none host one two told mid fault had = (mid, Err fault, had, (refl, refl))
