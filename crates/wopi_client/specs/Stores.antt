-- The calls of a store over a dial.
use Rattle.std.specs.Prelude.{ℕ, ◌≡◌, Bool, true, false, List, Option, Result, Ok, Err, ⊤}
use Rattle.outside.specs.declared.faults.StoreFault.{StoreFault}
use Rattle.outside.specs.declared.errands.Admission.{Admission}
use Rattle.outside.specs.declared.errands.Errand.{Errand}
use Rattle.wopi_dial.specs.Dials.{DialTold}
use Rattle.wopi_client.specs.declared.asks.Ask.{Ask}
use Rattle.wopi_client.specs.declared.asks.Ask.TheVariants as Asks
use Rattle.wopi_client.specs.declared.asks.Told.{Told}
use Rattle.wopi_client.specs.declared.asks.Told.TheVariants.{Info, Content, Done}
use Rattle.wopi_client.specs.Talks.{AskedOnce}

-- a check tells an admission, a get a content
abbrev pub IsInfo : Told → Type 0
IsInfo (Info admission) = ⊤
IsInfo (Content content) = ⊥
IsInfo Done = ⊥

abbrev pub IsContent : Told → Type 0
IsContent (Info admission) = ⊥
IsContent (Content content) = ⊤
IsContent Done = ⊥

-- an answer of the store as what was told
abbrev pub info_told : Result Admission StoreFault → Result Told StoreFault
info_told (Ok admission) = Ok (Info admission)
info_told (Err fault) = Err fault

abbrev pub content_told : Result (List ℕ) StoreFault → Result Told StoreFault
content_told (Ok content) = Ok (Content content)
content_told (Err fault) = Err fault

abbrev pub done_told : {A : Type 0} → Result A StoreFault → Result Told StoreFault
done_told (Ok a) = Ok Done
done_told (Err fault) = Err fault

-- one ask, and behind its success another; a refusal of the first ends the call
abbrev pub Then : (first : Result Told StoreFault) → (last : Result Told StoreFault) → Type 0 → (new mid : Option DialTold) → Type 0
Then (Ok told) last next new mid = next
Then (Err fault) last next new mid = (last ≡ Err fault) × (new ≡ mid)

abbrev pub AskedTwice : List ℕ → Ask → Ask → Option DialTold → Option DialTold → Result Told StoreFault → Type 0
AskedTwice host one two old new result =
    (mid : Option DialTold) × (first : Result Told StoreFault) × AskedOnce host one old mid first
    × Then first result (AskedOnce host two mid new result) new mid

-- a fetch gets the content; where it is to be written, the file is locked first
abbrev pub FetchesBy : List ℕ → (file token : List ℕ) → Bool → Option DialTold → Option DialTold → Result Told StoreFault → Type 0
FetchesBy host file token false old new result = AskedOnce host (Asks.Get file token) old new result
FetchesBy host file token true old new result = AskedTwice host (Asks.Lock file token) (Asks.Get file token) old new result

-- a put locks the file first
abbrev pub PutsBy : List ℕ → Errand → Option DialTold → Option DialTold → Result Told StoreFault → Type 0
PutsBy host errand old new result =
    AskedTwice host (Asks.Lock errand.file errand.token) (Asks.Put errand.file errand.token errand.content) old new result
