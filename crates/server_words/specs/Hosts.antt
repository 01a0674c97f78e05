-- What the words of `host` say.
use Rattle.std.specs.Prelude.{ℕ, Bool, true, ◌&&◌, nat_lt, nat_eq, List, [], ◌∷◌, length, slice_index, Option, Some, None, option_and_then, option_map, codes, if◌then◌else◌}
use Rattle.clap.specs.Words.{App, Rule, Text, Kinds, Row, first_of, matches_of, fault_of, new_app, new_rule, with_rule}
use Rattle.clap.specs.declared.builder.action.ArgAction.TheVariants.{Set}
use Rattle.cool_base.specs.Numbers.{number}
use Rattle.server_words.specs.declared.commands.HostWords.{HostWords as GivenWords}

-- `--port`, `--folder` and `--requests`, each with a value; the first two must be there
abbrev pub needed : Text → Rule
needed name = record (new_rule name) { long = Some name; required = true; action = Some Set }

abbrev pub optional : Text → Rule
optional name = record (new_rule name) { long = Some name; action = Some Set }

-- the command; its name is the first word
abbrev pub host_app : App
host_app = with_rule (with_rule (with_rule (new_app (codes "host")) (needed (codes "port"))) (needed (codes "folder"))) (optional (codes "requests"))

-- what is wanted: a port, a folder, and how many requests, 0 without end
pub record HostWords : Type 0 where
  pub port : ℕ
  pub folder : List ℕ
  pub requests : ℕ

-- what the code's words say
abbrev pub said_of : GivenWords → HostWords
said_of w = record { port = w.port; folder = w.folder.now; requests = w.requests }

-- whether the text begins with a zero that it could leave out
abbrev pub has_leading_zero : Text → Bool
has_leading_zero text = nat_lt 1 (length text) && nat_eq (slice_index text 0) 48

-- a number among the words: decimal digits, without a sign or a leading zero, with a value of at most `limit`
abbrev pub word_number : ℕ → Text → Option ℕ
word_number limit text = if has_leading_zero text then None else number 20 limit text

-- a port is a number of at most 65,535
abbrev pub port_of : Text → Option ℕ
port_of = word_number 65535

-- a count is a number below 2^32; it is 0 where it isn't there
abbrev pub count_of : Option Text → Option ℕ
count_of None = Some 0
count_of (Some text) = word_number 4294967295 text

-- what the values say
abbrev pub values_say : Option Text → Option Text → Option Text → Option HostWords
values_say None folder requests = None
values_say (Some port) None requests = None
values_say (Some port) (Some folder) requests =
    option_and_then (λ (p : ℕ). option_map (λ (n : ℕ). record { port = p; folder = folder; requests = n }) (count_of requests)) (port_of port)

-- the same of the matches
abbrev pub rows_say : List Row → Option HostWords
rows_say rows = values_say (first_of (codes "port") rows) (first_of (codes "folder") rows) (first_of (codes "requests") rows)

-- the words say this where the parser finds no fault in them
abbrev pub unless_faulty : {A : Type 0} → Kinds → Option A → Option A
unless_faulty [] said = said
unless_faulty (kind ∷ kinds) said = None

unfoldable pub host_said : List Text → Option HostWords
host_said words = unless_faulty (fault_of host_app words) (rows_say (matches_of host_app words))
