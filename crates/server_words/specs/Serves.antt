-- What the words of `serve` say.
use Rattle.std.specs.Prelude.{ℕ, Bool, ◌&&◌, nat_lt, List, length, Option, Some, None}
use Rattle.std.specs.Prelude.{option_and_then, option_map, codes, if◌then◌else◌}
use Rattle.std.specs.List.{list_all}
use Rattle.std.specs.Str.{bytes_eq}
use Rattle.std.specs.Path.{rsplit_once}
use Rattle.clap.specs.Words.{App, Text, Row, first_of, matches_of, fault_of, new_app, with_rule}
use Rattle.cool_base.specs.Numbers.{number}
use Rattle.cool_base.specs.Words.{is_token_byte}
use Rattle.server_words.specs.Hosts.{needed, optional, word_number, port_of, count_of}
use Rattle.server_words.specs.Hosts.{unless_faulty}
use Rattle.server_words.specs.declared.serves.KitName.{KitName}
use Rattle.server_words.specs.declared.serves.KitName.TheVariants.{Sheet, Patch}
use Rattle.server_words.specs.declared.serves.HostAddress.{HostAddress as GivenAddress}
use Rattle.server_words.specs.declared.serves.ServeWords.{ServeWords as GivenWords}

-- the command; its name is the first word, and only `--port` and `--wopi` must be there
abbrev pub serve_app : App
serve_app =
    with_rule (with_rule (with_rule (with_rule (with_rule (with_rule (new_app (codes "serve"))
    (needed (codes "port"))) (needed (codes "wopi"))) (optional (codes "polls")))
    (optional (codes "workers"))) (optional (codes "sessions"))) (optional (codes "kit"))

-- the address of a host: the whole word, and what it is cut into
pub record Address : Type 0 where
  pub text : Text
  pub host : Text
  pub port : ℕ

-- what is wanted: a port, a host, how many polls and workers, how many sessions, 0 without end,
-- and a kit
pub record ServeWords : Type 0 where
  pub port : ℕ
  pub wopi : Address
  pub polls : ℕ
  pub workers : ℕ
  pub sessions : ℕ
  pub kit : KitName

-- what the code's address and words say
abbrev pub address_said : GivenAddress → Address
address_said a = record { text = a.text.now; host = a.host.now; port = a.port }

abbrev pub serve_said_of : GivenWords → ServeWords
serve_said_of w = record {
  port = w.port;
  wopi = address_said w.wopi;
  polls = w.polls;
  workers = w.workers;
  sessions = w.sessions;
  kit = w.kit;
}

-- the name of a host: one or more bytes, each from 33 to 126
abbrev pub is_host_name : Text → Bool
is_host_name name = nat_lt 0 (length name) && list_all is_token_byte name

-- what a word says that is cut: a name, and a port of 1 to 5 digits with a value of at most 65,535
abbrev pub cut_says : Text → Option (Text × Text) → Option Address
cut_says text None = None
cut_says text (Some cut) =
    if is_host_name cut.0 then option_map (λ (p : ℕ). record {
      text = text;
      host = cut.0;
      port =
          p;
    }) (number 5 65535 cut.1) else None

-- the address of a host: the word is cut at its last colon
abbrev pub address_of : Text → Option Address
address_of text = cut_says text (rsplit_once 58 text)

-- how many, where it is more than none
abbrev pub some_of : ℕ → Option ℕ
some_of n = if nat_lt 0 n then Some n else None

-- the polls are 1 to 8, and 2 where nothing is said
abbrev pub polls_of : Option Text → Option ℕ
polls_of None = Some 2
polls_of (Some text) = option_and_then some_of (word_number 8 text)

-- the workers are 0 to 16, and 2 where nothing is said
abbrev pub workers_of : Option Text → Option ℕ
workers_of None = Some 2
workers_of (Some text) = word_number 16 text

-- the kit is `sheet`, also where nothing is said, or `patch`
abbrev pub kit_of : Option Text → Option KitName
kit_of None = Some Sheet
kit_of (Some text) = if bytes_eq text (codes "sheet") then Some Sheet else if bytes_eq text
    (codes "patch") then Some Patch else None

-- what is wanted, where each of its parts is said
abbrev pub parts_say : Option ℕ → Option Address → Option ℕ → Option ℕ → Option ℕ
    → Option KitName → Option ServeWords
parts_say None wopi polls workers sessions kit = None
parts_say (Some p) None polls workers sessions kit = None
parts_say (Some p) (Some a) None workers sessions kit = None
parts_say (Some p) (Some a) (Some n) None sessions kit = None
parts_say (Some p) (Some a) (Some n) (Some w) None kit = None
parts_say (Some p) (Some a) (Some n) (Some w) (Some s) None = None
parts_say (Some p) (Some a) (Some n) (Some w) (Some s) (Some k) =
    Some (record { port = p; wopi = a; polls = n; workers = w; sessions = s; kit = k })

-- what the values say
abbrev pub serve_values_say : Option Text → Option Text → Option Text → Option Text → Option Text
    → Option Text → Option ServeWords
serve_values_say port wopi polls workers sessions kit =
    parts_say (option_and_then port_of port) (option_and_then address_of wopi) (polls_of polls)
    (workers_of workers) (count_of sessions) (kit_of kit)

-- the same of the matches
abbrev pub serve_rows_say : List Row → Option ServeWords
serve_rows_say rows =
    serve_values_say (first_of (codes "port") rows) (first_of (codes "wopi") rows)
    (first_of (codes "polls") rows) (first_of (codes "workers") rows)
    (first_of (codes "sessions") rows) (first_of (codes "kit") rows)

-- the words say this where the parser finds no fault in them
unfoldable pub serve_said : List Text → Option ServeWords
serve_said words =
    unless_faulty (fault_of serve_app words) (serve_rows_say (matches_of serve_app words))
