-- An operation whose wire fails, and one that leaves the host as it is.
use Rattle.std.proofs.Common.{◌≡◌, ◌≤◌, ◌<◌, ◌-◌, ℕ, Bool, true, false, nat_lt}
use Rattle.std.proofs.Common.{List}
use Rattle.std.proofs.Common.{Err, inl, inr, refl, sym, subst, arith}
use Rattle.outside.specs.Causes.{Rose}
use Rattle.outside.specs.declared.faults.WireFault.TheVariants.{WriteFault}
use Rattle.outside.specs.declared.faults.StoreFault.{StoreFault}
use Rattle.outside.specs.declared.faults.StoreFault.TheVariants.{Wire, Memory}
use Rattle.outside.specs.declared.errands.Errand.{Errand}
use Rattle.wopi_client.specs.declared.asks.Ask.{Ask}
use Rattle.wopi_host.specs.Hosts.{HostAt, HostStays}
use Rattle.wopi_host.proofs.Answered.{host_same}
use Rattle.host_store.specs.Exchanges.{Exchanges, is_loss}
use Rattle.host_store.specs.Calls.{StoreAt, AskedIf, AsksOnce, Fetches, Puts}

-- Lost before the host was asked, or where the host was out of memory.
pub lost_before : (old new : HostAt) (ask : Ask) (now : ℕ) (fault : StoreFault)
    → is_loss fault ≡ true
    → HostStays old new → Exchanges old ask now (Err fault) new
lost_before old new ask now fault loss stays = inr (fault, refl, loss, inl stays)

pub lost_first : (h : HostAt) (ask : Ask) (now : ℕ) (fault : StoreFault) → is_loss fault ≡ true
    → Exchanges h ask now (Err fault) h
lost_first h ask now fault loss = lost_before h h ask now fault loss (host_same h)

is_above : (n : ℕ) → 0 < n → nat_lt 0 n ≡ true
is_above n h = grind arith

-- A wire that fails.
pub fails_once : (h : HostAt) (now failing faults more : ℕ) (ask : Ask) → 0 < failing
    → faults ≤ more
    → Rose faults more
    → AsksOnce (record { host = h; now = now; failing = failing; faults = faults }) ask
    (Err (Wire WriteFault))
    (record { host = h; now = now; failing = failing - 1; faults = more })
fails_once h now failing faults more ask some later rose = record {
  said = subst (λ (b : Bool). AskedIf b
      (record { host = h; now = now; failing = failing; faults = faults }) ask
      (Err (Wire WriteFault))
      (record { host = h; now = now; failing = failing - 1; faults = more }))
      (sym (is_above failing some)) (refl, host_same h);
  now = refl;
  failing = refl;
  cause = record { later = later; failed = λ e. rose; kept = λ other. absurd (other refl) };
}

-- A fetch and a put for which no memory was left before the first operation.
pub fetch_not_asked : (s : StoreAt) (file token : List ℕ) (write : Bool)
    → Fetches s file token write (Err Memory) s
fetch_not_asked s file token false = inr (refl, refl)
fetch_not_asked s file token true = (s, Err Memory, inr (refl, refl), (refl, refl))

pub put_not_asked : (s : StoreAt) (errand : Errand) → Puts s errand (Err Memory) s
put_not_asked s errand = (s, Err Memory, inr (refl, refl), (refl, refl))
