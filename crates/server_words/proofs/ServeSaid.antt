-- What the words of `serve` say, by what the parser answers.
use Rattle.std.proofs.Common.{◌≡◌, List, [], true, Option, None, Result, Ok, Err, IfOk, refl, ap}
use Rattle.std.proofs.Common.{subst, ◌∙◌, codes}
use Rattle.std.specs.Option.{option_copied}
use Rattle.std.specs.Borrow.{Bor}
use Rattle.clap.specs.Words.{App, Text, Kinds, HasKind, HasMatchesOf, FailsBy, first_value}
use Rattle.clap.specs.Words.{fault_of, found_of, is_simple_and_free, kind_of, matches_of, rows_of}
use Rattle.clap.specs.declared.parser.matches.ArgMatches.{ArgMatches}
use Rattle.clap.specs.declared.error.Error.{Error}
use Rattle.clap.specs.declared.error.kind.ErrorKind.TheVariants.{OutOfMemory}
use Rattle.clap.specs.declared.parser.matches.Found.{Found}
use Rattle.server_words.specs.declared.serves.ServeWords.{ServeWords as GivenWords}
use Rattle.server_words.specs.declared.commands.WordsFault.{WordsFault}
use Rattle.server_words.specs.declared.commands.WordsFault.TheVariants.{Refused, Memory}
use Rattle.server_words.specs.Hosts.{unless_faulty}
use Rattle.server_words.specs.Serves.{serve_app, serve_values_say, serve_rows_say, serve_said}
use Rattle.server_words.proofs.Said.{faulty, value_is}

-- what the code answers for a fault
abbrev pub serve_answer_for : WordsFault → Result GivenWords WordsFault
serve_answer_for fault = Err fault

-- the only fault that is one
pub serve_only_refused : (fault : WordsFault) → serve_answer_for fault ≡ serve_answer_for Refused
    → fault ≡ Refused
serve_only_refused Refused is = refl
serve_only_refused Memory is = cc

-- words in which the parser finds a fault say nothing
pub serve_refused_by_parser : (words : List Text) (e : Error)
    → HasKind (fault_of serve_app words) e → (kind_of e ≡ OutOfMemory → ⊥) → serve_said words ≡ None
unfolding serve_said
serve_refused_by_parser words e has other =
    faulty (fault_of serve_app words) e (serve_rows_say (matches_of serve_app words)) has other

six_say : (p1 p2 a1 a2 n1 n2 w1 w2 s1 s2 k1 k2 : Option Text) → p1 ≡ p2 → a1 ≡ a2 → n1 ≡ n2
    → w1 ≡ w2 → s1 ≡ s2 → k1 ≡ k2
    → serve_values_say p1 a1 n1 w1 s1 k1 ≡ serve_values_say p2 a2 n2 w2 s2 k2
six_say p1 p2 a1 a2 n1 n2 w1 w2 s1 s2 k1 k2 p a n w s k =
    ap (λ (x : Option Text). serve_values_say x a1 n1 w1 s1 k1) p
    ∙ ap (λ (x : Option Text). serve_values_say p2 x n1 w1 s1 k1) a
    ∙ ap (λ (x : Option Text). serve_values_say p2 a2 x w1 s1 k1) n
    ∙ ap (λ (x : Option Text). serve_values_say p2 a2 n2 x s1 k1) w
    ∙ ap (λ (x : Option Text). serve_values_say p2 a2 n2 w2 x k1) s
    ∙ ap (λ (x : Option Text). serve_values_say p2 a2 n2 w2 s2 x) k

-- others say what their values say
pub serve_said_by_values : (words : List Text) (found : Found)
    (port wopi polls workers sessions kit : Option (Bor Text))
    → fault_of serve_app words ≡ [] → rows_of found ≡ matches_of serve_app words
    → option_copied port ≡ first_value found (codes "port")
    → option_copied wopi ≡ first_value found (codes "wopi")
    → option_copied polls ≡ first_value found (codes "polls")
    → option_copied workers ≡ first_value found (codes "workers")
    → option_copied sessions ≡ first_value found (codes "sessions")
    → option_copied kit ≡ first_value found (codes "kit")
    → serve_said words ≡ serve_values_say (option_copied port) (option_copied wopi)
    (option_copied polls) (option_copied workers) (option_copied sessions) (option_copied kit)
unfolding serve_said
serve_said_by_values words found port wopi polls workers sessions kit none rows p a n w s k =
    ap (λ (kinds : Kinds). unless_faulty kinds (serve_rows_say (matches_of serve_app words))) none
    ∙ six_say _ _ _ _ _ _ _ _ _ _ _ _ (value_is found _ (codes "port") port rows p)
    (value_is found _ (codes "wopi") wopi rows a) (value_is found _ (codes "polls") polls rows n)
    (value_is found _ (codes "workers") workers rows w) (value_is found _
    (codes "sessions") sessions rows s) (value_is found _ (codes "kit") kit rows k)

-- what the parser promises of the command
pub serve_fails : (a : App) (words : List Text) (result : Result ArgMatches Error) → a ≡ serve_app
    → (is_simple_and_free a ≡ true → FailsBy (fault_of a words) result)
    → FailsBy (fault_of serve_app words) result
serve_fails a words result is fails =
    subst (λ (x : App). is_simple_and_free x ≡ true
    → FailsBy (fault_of x words) result) is fails refl

serve_matched : (a : App) (words : List Text) (m : ArgMatches) → a ≡ serve_app
    → HasMatchesOf a words m → rows_of (found_of m) ≡ matches_of serve_app words
serve_matched a words m is has = (subst (λ (x : App). HasMatchesOf x words m) is has refl).0

pub all_matched : (a : App) (words : List Text) (result : Result ArgMatches Error) → a ≡ serve_app
    → IfOk result (λ m. HasMatchesOf a words m)
    → IfOk result (λ m. rows_of (found_of m) ≡ matches_of serve_app words)
all_matched a words (Ok m) is has = serve_matched a words m is has
all_matched a words (Err e) is has = has
