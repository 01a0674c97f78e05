-- One wire is served.
use Rattle.std.proofs.Common.{ℕ, ◌≡◌, true, nat_eq, ◌<◌, Option, Result, Ok, Err, refl, ap, arith}
use Rattle.outside.specs.Causes.{HasCause, Rose}
use Rattle.outside.specs.Wires.{Talk, Says}
use Rattle.net_traits.specs.Clocks.{Ticks}
use Rattle.outside.specs.declared.faults.WireFault.{WireFault}
use Rattle.outside.specs.declared.faults.WireFault.TheVariants.{ReadFault, WriteFault}
use Rattle.http_message.specs.declared.Request.{Request}
use Rattle.http_message.specs.declared.Response.{Response}
use Rattle.wire_body.specs.declared.faults.HttpFault.{HttpFault}
use Rattle.wire_body.specs.declared.faults.HttpFault.TheVariants.{Wire, Memory as NoMemory}
use Rattle.http_wire.specs.Messages.{ReadsMessage}
use Rattle.http_wire.specs.Kinds.{requests}
use Rattle.http_write.specs.Texts.{response_bytes}
use Rattle.http_write.specs.Writes.{Writes}
use Rattle.wopi_host.specs.Hosts.{HostAnswers, HostStays}
use Rattle.edge.specs.Edges.{IsNew}
use Rattle.cool_server.specs.Hosting.{Hosting, Serves, Refused, Answered, CutShort, RunsOut, WhileReading, WhileAnswering, BeforeWriting}

-- a count that rose is above 0
risen : (before after : ℕ) → Rose before after → 0 < after
risen before after rose = omega arith

-- what a read and a write answer for a fault
abbrev pub unread : HttpFault → Result Request HttpFault
unread fault = Err fault

abbrev pub unwritten : HttpFault → Result (Unit {0}) HttpFault
unwritten fault = Err fault

-- the bytes are no request
pub refused : (a : Hosting) (start talk : Option Talk) (before after : ℕ) (fault : WireFault)
    → IsNew start → ReadsMessage requests start talk (Err (Wire fault)) → HasCause before after (unread (Wire fault) ≡ unread (Wire ReadFault))
    → Serves a (record { talk = talk; faults = after }) a
refused a start talk before after fault new reads cause =
    Refused fault start new reads (λ is. risen before after (cause.failed (ap (λ (f : WireFault). unread (Wire f)) is))) refl

-- what stands after a request that was answered and whose response was written, or not
pub written : (a b : Hosting) (request : Request) (now : ℕ) (response : Response) (start asked talk : Option Talk) (before after : ℕ)
    → IsNew start → ReadsMessage requests start asked (Ok request) → Ticks a.moments now b.moments → HostAnswers a.host request now response b.host → HasCause a.faults b.faults (nat_eq response.status 500 ≡ true)
    → Says asked (response_bytes response) talk
    → Serves a (record { talk = talk; faults = after }) b
written a b request now response start asked talk before after new reads ticks answers answered says =
    Answered response asked (record { request = request; now = now; asks = record { start = start; new = new; reads = reads }; ticks = ticks; responds = record { answers = answers; cause = answered } }) says

pub cut_short : (a b : Hosting) (request : Request) (now : ℕ) (response : Response) (fault : WireFault) (start asked talk : Option Talk) (before after : ℕ)
    → IsNew start → ReadsMessage requests start asked (Ok request) → Ticks a.moments now b.moments → HostAnswers a.host request now response b.host → HasCause a.faults b.faults (nat_eq response.status 500 ≡ true)
    → Writes asked (response_bytes response) (Err (Wire fault)) talk → HasCause before after (unwritten (Wire fault) ≡ unwritten (Wire WriteFault))
    → Serves a (record { talk = talk; faults = after }) b
cut_short a b request now response fault start asked talk before after new reads ticks answers answered writes cause =
    CutShort response asked (record { request = request; now = now; asks = record { start = start; new = new; reads = reads }; ticks = ticks; responds = record { answers = answers; cause = answered } })
    writes.1
    (risen before after (cause.failed (ap (λ (f : WireFault). unwritten (Wire f)) writes.0)))

-- memory ran out
pub out_while_reading : (a : Hosting) (start talk : Option Talk) (faults : ℕ)
    → IsNew start → ReadsMessage requests start talk (Err NoMemory) → RunsOut a (record { talk = talk; faults = faults }) a
out_while_reading a start talk faults new reads = WhileReading start new reads refl

pub out_while_answering : (a b : Hosting) (request : Request) (now : ℕ) (start talk : Option Talk) (faults : ℕ)
    → IsNew start → ReadsMessage requests start talk (Ok request) → Ticks a.moments now b.moments → HostStays a.host b.host → b.faults ≡ a.faults
    → RunsOut a (record { talk = talk; faults = faults }) b
out_while_answering a b request now start talk faults new reads ticks same sound =
    WhileAnswering request now (record { start = start; new = new; reads = reads }) ticks same sound

pub out_before_writing : (a b : Hosting) (request : Request) (now : ℕ) (response : Response) (start asked talk : Option Talk) (faults : ℕ)
    → IsNew start → ReadsMessage requests start asked (Ok request) → Ticks a.moments now b.moments → HostAnswers a.host request now response b.host → HasCause a.faults b.faults (nat_eq response.status 500 ≡ true)
    → Writes asked (response_bytes response) (Err NoMemory) talk
    → RunsOut a (record { talk = talk; faults = faults }) b
out_before_writing a b request now response start asked talk faults new reads ticks answers answered writes =
    BeforeWriting response asked (record { request = request; now = now; asks = record { start = start; new = new; reads = reads }; ticks = ticks; responds = record { answers = answers; cause = answered } }) writes
