-- What an event gives out: frames, each to one view, jobs and errands.
use Rattle.std.specs.Prelude.{ℕ, List, [], ◌∷◌, ◌++◌}
use Rattle.cool_base.specs.declared.ids.ViewId.{ViewId}
use Rattle.cool_frame.specs.declared.frame.Frame.{Frame}
use Rattle.document_machine.specs.declared.outs.Outs.{Outs}
use Rattle.document_machine.specs.declared.outs.Turned.{Turned}
use Rattle.document_machine.specs.declared.outs.Turned.TheVariants.{Worked, Idle}

-- a view's name and its id are one thing
abbrev pub named : ℕ → ViewId
named id = record { 0 = id }

-- nothing
abbrev pub nothing : {S : Type 0} → Outs S
nothing = record { frames = []; jobs = []; errands = [] }

-- these frames alone
abbrev pub frames_only : {S : Type 0} → List (ViewId × Frame) → Outs S
frames_only frames = record { frames = frames; jobs = []; errands = [] }

-- one frame to one view
abbrev pub one_frame : {S : Type 0} → ℕ → Frame → Outs S
one_frame id frame = frames_only ((named id, frame) ∷ [])

-- one after the other
abbrev pub joined : {S : Type 0} → Outs S → Outs S → Outs S
joined first later =
    record {
      frames = first.frames ++ later.frames;
      jobs = first.jobs ++ later.jobs;
      errands = first.errands ++ later.errands;
    }

-- what a turn gave out
abbrev pub outs_of : {S : Type 0} → Turned S → Outs S
outs_of (Worked outs) = outs
outs_of Idle = nothing
