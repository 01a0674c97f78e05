-- What words say, by what the parser answers.
use Rattle.std.proofs.Common.{◌≡◌, inl, inr, List, [], ◌∷◌, Option, None, Result, Err, refl, ap}
use Rattle.std.proofs.Common.{sym, ◌∙◌, codes}
use Rattle.std.specs.Option.{option_copied}
use Rattle.std.specs.Borrow.{Bor}
use Rattle.clap.specs.Words.{Text, Row, Kinds, HasKind, first_of, first_value, fault_of, kind_of}
use Rattle.clap.specs.Words.{matches_of, rows_of}
use Rattle.clap.specs.declared.error.Error.{Error}
use Rattle.clap.specs.declared.error.kind.ErrorKind.TheVariants.{OutOfMemory}
use Rattle.clap.specs.declared.parser.matches.Found.{Found}
use Rattle.clap.proofs.WalkLemmas.{first_value-rows}
use Rattle.server_words.specs.declared.commands.HostWords.{HostWords as GivenWords}
use Rattle.server_words.specs.declared.commands.WordsFault.{WordsFault}
use Rattle.server_words.specs.declared.commands.WordsFault.TheVariants.{Refused, Memory}
use Rattle.server_words.specs.Hosts.{host_app, values_say, rows_say, unless_faulty, host_said}

-- what the code answers for a fault
abbrev pub answer_for : WordsFault → Result GivenWords WordsFault
answer_for fault = Err fault

-- the only fault that is one
pub only_refused : (fault : WordsFault) → answer_for fault ≡ answer_for Refused → fault ≡ Refused
only_refused Refused is = refl
only_refused Memory is = cc

pub faulty : {A : Type 0} (kinds : Kinds) (e : Error) (said : Option A) → HasKind kinds e
    → (kind_of e ≡ OutOfMemory → ⊥) → unless_faulty kinds said ≡ None
faulty [] e said (inl memory) other = absurd (other memory)
faulty [] e said (inr none) other = absurd none
faulty (kind ∷ kinds) e said has other = refl

-- words in which the parser finds a fault say nothing
pub refused_by_parser : (words : List Text) (e : Error) → HasKind (fault_of host_app words) e
    → (kind_of e ≡ OutOfMemory → ⊥) → host_said words ≡ None
unfolding host_said
refused_by_parser words e has other = faulty (fault_of host_app words) e (rows_say
    (matches_of host_app words)) has other

pub value_is : (found : Found) (rows : List Row) (id : Text) (value : Option (Bor Text))
    → rows_of found ≡ rows → option_copied value ≡ first_value found id
    → first_of id rows ≡ option_copied value
value_is found rows id value is got = sym (got ∙ first_value-rows found id
    ∙ ap (λ (rs : List Row). first_of id rs) is)

all_say : (p1 p2 f1 f2 r1 r2 : Option Text) → p1 ≡ p2 → f1 ≡ f2 → r1 ≡ r2
    → values_say p1 f1 r1 ≡ values_say p2 f2 r2
all_say p1 p2 f1 f2 r1 r2 p f r = ap (λ (x : Option Text). values_say x f1 r1) p
    ∙ ap (λ (x : Option Text). values_say p2 x r1) f
    ∙ ap (λ (x : Option Text). values_say p2 f2 x) r

-- others say what their values say
pub said_by_values : (words : List Text) (found : Found) (port folder requests : Option
    (Bor Text)) → fault_of host_app words ≡ [] → rows_of found ≡ matches_of host_app words
    → option_copied port ≡ first_value found (codes "port")
    → option_copied folder ≡ first_value found (codes "folder")
    → option_copied requests ≡ first_value found (codes "requests")
    → host_said words ≡ values_say (option_copied port) (option_copied folder)
    (option_copied requests)
unfolding host_said
said_by_values words found port folder requests none rows p f r =
    ap (λ (kinds : Kinds). unless_faulty kinds (rows_say (matches_of host_app words))) none
    ∙ all_say _ _ _ _ _ _ (value_is found _ (codes "port") port rows p) (value_is found _
    (codes "folder") folder rows f) (value_is found _ (codes "requests") requests rows r)
