-- What comes of a message of a view.
use Rattle.std.specs.Prelude.{◌≡◌, ℕ, Bool, List, [], ◌∷◌, filter, Option, Result, Ok, Err, None, Some}
use Rattle.cool_base.specs.Points.{Extent}
use Rattle.cool_frame.specs.declared.frame.Frame.{Frame}
use Rattle.cool_frame.specs.declared.frame.Frame.TheVariants.{Error}
use Rattle.cool_frame.specs.declared.kind.ErrorKind.TheVariants.{TooLarge, AskedFull}
use Rattle.document_machine.specs.Due.{seen_keys}
use Rattle.document_machine.specs.Message.{Limits, Effect}
use Rattle.document_machine.specs.State.{View}
use Rattle.kit_trait.specs.Rules.{Rules}
use Rattle.kit_trait.specs.declared.values.Input.{Input}
use Rattle.save_core.specs.declared.values.Save.{Save as Waiting}
use Rattle.view_session.specs.Viewing.{Entry}
use Rattle.view_session.specs.declared.views.ViewFault.{ViewFault}
use Rattle.view_session.specs.declared.views.ViewFault.TheVariants.{TooLarge as SeesTooMuch, AskedFull as AsksTooMuch, Memory}
use Rattle.broker_core.specs.Members.{view_of}
use Rattle.broker_core.specs.declared.hearing.Outcome.{Outcome}
use Rattle.broker_core.specs.declared.hearing.Outcome.TheVariants.{Nothing, Answer, Accepted, Waits}
use Rattle.broker_core.specs.declared.members.Member.{Member}

-- the sizes of the parts in these contents
abbrev pub sizes_in : {C B : Type 0} → Rules C B → C → ℕ → Extent
sizes_in rules contents = rules.size (rules.body contents)

-- what a message meets in these contents, where so many inputs are accepted and these saves wait
abbrev pub limits_in : {C B : Type 0} → Rules C B → C → ℕ → List Waiting → Limits
limits_in rules contents count saves =
    record { inputs = count; saves = saves; parts = rules.parts (rules.body contents); sizes = sizes_in rules contents }

-- the frames, the inputs, and the save, of what came of a message
abbrev pub frames_in : Outcome → List Frame
frames_in Nothing = []
frames_in (Answer frame) = frame ∷ []
frames_in (Accepted input) = []
frames_in (Waits skip) = []

abbrev pub inputs_in : Outcome → List Input
inputs_in Nothing = []
inputs_in (Answer frame) = []
inputs_in (Accepted input) = input ∷ []
inputs_in (Waits skip) = []

abbrev pub save_in : Outcome → Option Bool
save_in Nothing = None
save_in (Answer frame) = None
save_in (Accepted input) = None
save_in (Waits skip) = Some skip

-- the effect that it is, where the view is this one after it
abbrev pub effect_in : View → Outcome → Effect
effect_in view outcome = record { frames = frames_in outcome; inputs = inputs_in outcome; save = save_in outcome; view = view }

-- what came of a message is this effect; the keys that the member sees are again those of its view, in a
-- document with parts of these sizes, and its screen has entries alone that it had
pub record Hears (sizes : ℕ → Extent) (member : Member) (effect : Effect) (outcome : Outcome) (now : Member) : Type 0 where
  pub is : effect_in (view_of now) outcome ≡ effect
  pub seen : now.view.visible ≡ seen_keys sizes (view_of now)
  pub keeps : Entry → Bool
  pub screen_is : now.view.screen ≡ filter keeps member.view.screen

-- what comes of a change of a view: nothing, or an error frame where the view refused it
abbrev pub outcome_of : (command : List ℕ) → Result (Unit {0}) ViewFault → Outcome
outcome_of command (Ok done) = Nothing
outcome_of command (Err SeesTooMuch) = Answer (Error command TooLarge None)
outcome_of command (Err AsksTooMuch) = Answer (Error command AskedFull None)
outcome_of command (Err Memory) = Nothing
