-- One exchange with the host: a request to it, and its response back.
use Rattle.std.specs.Prelude.{ℕ, ◌≡◌, ◌⊎◌, Bool, true, false, List, codes, Result, Ok, Err}
use Rattle.http_message.specs.declared.Response.{Response}
use Rattle.outside.specs.declared.faults.StoreFault.{StoreFault}
use Rattle.outside.specs.declared.faults.StoreFault.TheVariants.{Conflict, Denied, Missing}
use Rattle.outside.specs.declared.faults.StoreFault.TheVariants.{BadAnswer, Wire, BadJson, Memory}
use Rattle.outside.specs.Stores.{is_of_wire}
use Rattle.http_wire.specs.Messages.{IsAnswer}
use Rattle.http_wire.specs.Kinds.{responses}
use Rattle.http_write.specs.Texts.{response_bytes}
use Rattle.http_again.specs.Given.{IsGiven}
use Rattle.wopi_client.specs.declared.asks.Ask.{Ask}
use Rattle.wopi_client.specs.declared.asks.Told.{Told}
use Rattle.wopi_client.specs.Asks.{request_for, Understands}
use Rattle.wopi_host.specs.Hosts.{HostAt, HostStays, TableAnswers}

-- The name of the host in each request.
abbrev pub host_name : List ℕ
host_name = codes "wopi.test"

-- The response is what a reader reads of a wire that gives these bytes.
abbrev pub IsReadOf : List ℕ → Response → Type 0
IsReadOf whole heard =
    (bytes : List ℕ) × (ended : Bool) × IsGiven whole bytes ended
    × IsAnswer {M = Response} responses bytes ended (Ok heard)

-- The answer is what the client understands of what it reads of these bytes.
abbrev pub IsUnderstoodOf : List ℕ → Ask → Result Told StoreFault → Type 0
IsUnderstoodOf whole ask result = (heard : Response) × IsReadOf whole heard
    × Understands ask heard result

-- The host answered the request by its table.
abbrev pub IsServed : HostAt → Ask → (now : ℕ) → HostAt → Type 0
IsServed old ask now new = (response : Response)
    × TableAnswers old (request_for ask) now response new

-- It did, and the answer is what the client reads in the response.
abbrev pub IsAnswered : HostAt → Ask → (now : ℕ) → Result Told StoreFault → HostAt → Type 0
IsAnswered old ask now result new =
    (response : Response) × TableAnswers old (request_for ask) now response new
    × IsUnderstoodOf (response_bytes response) ask result

-- The exchange was lost: it is out of memory, or a wire failed.
abbrev pub is_loss : StoreFault → Bool
is_loss (Conflict id) = false
is_loss Denied = false
is_loss Missing = false
is_loss (BadAnswer status) = false
is_loss (Wire fault) = is_of_wire fault
is_loss BadJson = false
is_loss Memory = true

-- A lost one left the host as it was, or came after the host's answer.
abbrev pub IsLost : HostAt → Ask → (now : ℕ) → Result Told StoreFault → HostAt → Type 0
IsLost old ask now result new =
    (fault : StoreFault) × (result ≡ Err fault) × (is_loss fault ≡ true)
    × (HostStays old new ⊎ IsServed old ask now new)

-- One exchange.
abbrev pub Exchanges : HostAt → Ask → (now : ℕ) → Result Told StoreFault → HostAt → Type 0
Exchanges old ask now result new = IsAnswered old ask now result new ⊎ IsLost old ask now result new
