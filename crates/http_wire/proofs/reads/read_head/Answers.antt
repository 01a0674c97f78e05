use Rattle.std.proofs.Common.{◌≡◌, ◌<◌, ◌≤◌, ◌++◌, ◌∙◌, false, length, take, drop, arith, ap, sym, subst, length-append, refl, inl}
use Rattle.std.proofs.lemmas.Result.{err_from_is_err_and}
use Rattle.std.proofs.lemmas.Grind.{common_steps}
use Rattle.outside.specs.Wires.{Hears}
use Rattle.outside.proofs.Talks.{hears_nothing, hears_more}
use Rattle.http_head.specs.Phases.{Leads}
use Rattle.http_head.specs.declared.TheConstants.{HEAD_LIMIT}
use Rattle.http_wire.specs.Following.{Follows}
use Rattle.wire_body.proofs.Gathers.{piece_small}
use Rattle.http_wire.proofs.Phases.{follows_none, follows_more, piece_is, piece_leads}
use Rattle.http_wire.proofs.Joins.{begun_late, refused_answer, longer_answer, cut_answer, fault_answer, piece_memory_answer, scan_refused, scan_begun}
use Rattle.http_wire.proofs.reads.read_head.Goals as goal

pub loop-bytes-init : goal.loop-bytes-init
loop-bytes-init g c =
    let none = c.new-bytes.ensures.items in
    let talk = g.W.Wire.talk c.args.wire.now in
    record {
      heard = subst (λ xs. Hears talk xs false talk) (sym none) (hears_nothing talk);
      follows =
          follows_none g.H.Head.kind c.new-bytes.result.items c.first_phase-phase.result
          c.first_phase-phase.ensures none;
      within = omega (arith, ap length none);
      late = inl none;
      no_fault = refl;
    }

pub loop-bytes-preserved : goal.loop-bytes-preserved
loop-bytes-preserved g c =
    let bytes = c.loop-bytes.bytes.items in
    let piece = take c.in-Read.count c.receive.new.into in
    let rest = drop c.min-most.result c.loop-bytes.room in
    let grown : c.extend_from_slice.new.self.items ≡ bytes ++ piece =
    piece_is bytes c.receive.new.into rest c.extend_from_slice.new.self.items c.in-Read.count
    c.in-Read.ensures.receives.1 c.in_ok-extend_from_slice-in-Read.ensures.items in
    let leads : Leads c.loop-bytes.phase piece c.after-phase.result =
    piece_leads c.receive.new.into rest c.in-Read.count c.loop-bytes.phase c.after-phase.result
    c.in-Read.ensures.receives.1 c.after-phase.ensures in
    let talk = g.W.Wire.talk c.args.wire.now in
    let after = g.W.Wire.talk c.receive.new.self in
    record {
      heard =
          subst (λ xs. Hears talk xs false after) (sym grown)
          (hears_more talk (g.W.Wire.talk c.loop-bytes.wire) after bytes piece false
          c.loop-bytes.invariant.heard c.in-Read.ensures.receives.2);
      follows =
          follows_more g.H.Head.kind bytes piece c.extend_from_slice.new.self.items
          c.loop-bytes.phase c.after-phase.result c.loop-bytes.invariant.follows leads grown;
      within =
          let long = ap length grown ∙ length-append bytes piece in
          grind (arith, common_steps);
      late =
          begun_late g.H.Head.kind bytes piece c.extend_from_slice.new.self.items
          (grind (arith, common_steps))
          (scan_begun g.H.Head.kind c.deref.result.now bytes c.in_ok-parts.field-0
          c.in_ok-parts.ensures c.in-Begun.is c.deref.ensures.value)
          (piece_small c.in-Read.count c.receive.new.into c.in-Read.ensures.receives.1
          (grind (arith, common_steps)))
          grown;
      no_fault = c.in-Read.ensures.cause.kept (λ is. cc) ∙ c.loop-bytes.invariant.no_fault;
    }

pub look-requires : goal.look-requires
look-requires g c =
    subst (λ xs. Follows g.H.Head.kind xs c.loop-bytes.phase) (sym c.deref.ensures.value)
    c.loop-bytes.invariant.follows

pub returns-in-NoHead-clause-refused : goal.returns-in-NoHead-clause-refused
returns-in-NoHead-clause-refused g c =
    refused_answer g.H.Head.kind (g.W.Wire.talk c.args.wire.now) (g.W.Wire.talk c.loop-bytes.wire) c.loop-bytes.bytes.items c.loop-bytes.invariant.heard c.loop-bytes.invariant.within
    (scan_refused g.H.Head.kind c.deref.result.now c.loop-bytes.bytes.items c.in_ok-parts.field-0 c.in_ok-parts.ensures c.in-NoHead.is c.deref.ensures.value)
    c.loop-bytes.invariant.late

pub returns-then-len-ge-HEAD_LIMIT-clause-refused :
    goal.returns-then-len-ge-HEAD_LIMIT-clause-refused
returns-then-len-ge-HEAD_LIMIT-clause-refused g c =
    let full : HEAD_LIMIT ≤ length c.loop-bytes.bytes.items = grind (arith, common_steps) in
    longer_answer g.H.Head.kind (g.W.Wire.talk c.args.wire.now) (g.W.Wire.talk c.loop-bytes.wire) c.loop-bytes.bytes.items c.loop-bytes.invariant.heard c.loop-bytes.invariant.within full
    (scan_begun g.H.Head.kind c.deref.result.now c.loop-bytes.bytes.items c.in_ok-parts.field-0 c.in_ok-parts.ensures c.in-Begun.is c.deref.ensures.value)
    c.loop-bytes.invariant.late

pub returns-in_err-extend_from_slice-in-Read-clause-refused :
    goal.returns-in_err-extend_from_slice-in-Read-clause-refused
returns-in_err-extend_from_slice-in-Read-clause-refused g c =
    let p = err_from_is_err_and c.from_residual-in_err-extend_from_slice-in-Read.result c.from_residual-in_err-extend_from_slice-in-Read.ensures.1 in
    rw (p.1, p.2)
    (piece_memory_answer g.H.Head.kind (g.W.Wire.talk c.args.wire.now) (g.W.Wire.talk c.loop-bytes.wire) (g.W.Wire.talk c.receive.new.self) c.loop-bytes.bytes.items (take c.in-Read.count c.receive.new.into) c.loop-bytes.invariant.heard c.in-Read.ensures.receives.2)

pub returns-in-End-clause-refused : goal.returns-in-End-clause-refused
returns-in-End-clause-refused g c =
    let less : length c.loop-bytes.bytes.items < HEAD_LIMIT = grind (arith, common_steps) in
    cut_answer g.H.Head.kind (g.W.Wire.talk c.args.wire.now) (g.W.Wire.talk c.loop-bytes.wire) (g.W.Wire.talk c.receive.new.self) c.loop-bytes.bytes.items c.loop-bytes.invariant.heard c.in-End.ensures.receives less
    (scan_begun g.H.Head.kind c.deref.result.now c.loop-bytes.bytes.items c.in_ok-parts.field-0 c.in_ok-parts.ensures c.in-Begun.is c.deref.ensures.value)
    c.loop-bytes.invariant.late

pub returns-in-Failed-clause-refused : goal.returns-in-Failed-clause-refused
returns-in-Failed-clause-refused g c =
    let less : length c.loop-bytes.bytes.items < HEAD_LIMIT = grind (arith, common_steps) in
    fault_answer g.H.Head.kind (g.W.Wire.talk c.args.wire.now) (g.W.Wire.talk c.loop-bytes.wire) (g.W.Wire.talk c.receive.new.self) c.loop-bytes.bytes.items c.loop-bytes.invariant.heard c.in-Failed.ensures.receives less
    (scan_begun g.H.Head.kind c.deref.result.now c.loop-bytes.bytes.items c.in_ok-parts.field-0 c.in_ok-parts.ensures c.in-Begun.is c.deref.ensures.value)
    c.loop-bytes.invariant.late
