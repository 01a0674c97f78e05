-- Answers of the host, over plain variables.
use Rattle.std.proofs.Common.{ℕ, ◌≡◌, List, Option, Some, None, Bool, true, false, refl, sym, ap, ◌∙◌, subst, cond, bytes_eq, Result, Ok, Err, IfOk, OnErr}
use Rattle.std.proofs.lemmas.Slice.Eq.{bytes_eq-Decides}
use Rattle.http_message.specs.declared.Request.{Request}
use Rattle.http_message.specs.declared.Response.{Response}
use Rattle.wopi_host.specs.declared.table.Action.{Action}
use Rattle.wopi_host.specs.declared.table.Action.TheVariants.{Refused, Info, Content, Sets, Removes, TellsLock, Replaces, Conflict}
use Rattle.wopi_host.specs.Keepers.{Files, Holdings, IsIn, IsKept, Puts, Keeps, SameFiles, SameHoldings, one_more}
use Rattle.wopi_host.specs.Targets.{Named, Nothing}
use Rattle.wopi_host.specs.Hosts.{Pages, SamePages, WritesPage, HostAt, HostStays, Asking, HeldAfter, ActsAt, AnswersAt, Answers, bare}
use Rattle.wopi_host.proofs.Same.{same_holdings, some_kept}

-- the files are the same over two steps
files_trans : (a b c : Option Files) → SameFiles a b → SameFiles b c → SameFiles a c
unfolding SameFiles
files_trans None None None p q = tt
files_trans None None (Some h) p q = q
files_trans None (Some g) c p q = absurd p
files_trans (Some f) None c p q = absurd p
files_trans (Some f) (Some g) None p q = q
files_trans (Some f) (Some g) (Some h) p q = λ id. q id ∙ p id

-- what is held is the same over two steps
pub same_trans : (a b c : Holdings) → SameHoldings a b → SameHoldings b c → SameHoldings a c
same_trans a b c p q = record { files = files_trans a.files b.files c.files p.files q.files; accepted = q.accepted ∙ p.accepted }

in_from : (a b : Option Files) (file : List ℕ) (content : Option (List ℕ)) → SameFiles a b → IsIn b file content → IsIn a file content
unfolding SameFiles IsIn
in_from None b file content p kept = tt
in_from (Some f) None file content p kept = absurd p
in_from (Some f) (Some g) file content p kept = sym (p file) ∙ kept

-- a content of the same files
pub kept_from : (a b : Holdings) (file : List ℕ) (content : Option (List ℕ)) → SameHoldings a b → IsKept b file content → IsKept a file content
kept_from a b file content p kept = in_from a.files b.files file content p.files kept

in_to : (a b : Option Files) (file : List ℕ) (content : Option (List ℕ)) → SameFiles a b → IsIn a file content → IsIn b file content
unfolding SameFiles IsIn
in_to a None file content p kept = tt
in_to None (Some g) file content p kept = absurd p
in_to (Some f) (Some g) file content p kept = p file ∙ kept

-- the same forwards
pub kept_to : (a b : Holdings) (file : List ℕ) (content : Option (List ℕ)) → SameHoldings a b → IsKept a file content → IsKept b file content
kept_to a b file content p kept = in_to a.files b.files file content p.files kept

puts_from : (a b : Option Files) (file content : List ℕ) (c : Option Files) → SameFiles a b → Puts b file content c → Puts a file content c
unfolding SameFiles Puts
puts_from None None file content None p keeps = tt
puts_from None None file content (Some h) p keeps = keeps
puts_from None (Some g) file content c p keeps = absurd p
puts_from (Some f) None file content c p keeps = absurd p
puts_from (Some f) (Some g) file content None p keeps = keeps
puts_from (Some f) (Some g) file content (Some h) p keeps = λ id. keeps id ∙ ap (λ x. cond (bytes_eq id file) (Some content) x) (p id)

-- a content put among the same files
pub keeps_from : (a b : Holdings) (file content : List ℕ) (c : Holdings) → SameHoldings a b → Keeps b file content c → Keeps a file content c
keeps_from a b file content c p keeps = record {
  files = puts_from a.files b.files file content c.files p.files keeps.files;
  accepted = keeps.accepted ∙ ap one_more p.accepted;
}

-- what is held behind an action, from the same holdings
pub held_from : (action : Action) (a b : Holdings) (file body : List ℕ) (c : Holdings) → SameHoldings a b → HeldAfter action b file body c → HeldAfter action a file body c
held_from (Refused status) a b file body c p after = same_trans a b c p after
held_from Info a b file body c p after = same_trans a b c p after
held_from Content a b file body c p after = same_trans a b c p after
held_from Sets a b file body c p after = same_trans a b c p after
held_from Removes a b file body c p after = same_trans a b c p after
held_from TellsLock a b file body c p after = same_trans a b c p after
held_from Replaces a b file body c p after = keeps_from a b file body c p after
held_from Conflict a b file body c p after = same_trans a b c p after

-- equal bytes
pub bytes_same : (xs ys : List ℕ) → bytes_eq xs ys ≡ true → xs ≡ ys
bytes_same xs ys is = (bytes_eq-Decides xs ys).0 is

-- pages that stay, with this file's own written again
pub page_stays : (pages1 pages2 : Pages) (file : List ℕ) → SamePages pages1 pages2 → WritesPage pages1 file (pages1 file) pages2
page_stays pages1 pages2 file same = λ id. same id ∙ by_test id (bytes_eq id file) refl
  where
    by_test : (id : List ℕ) (test : Bool) → bytes_eq id file ≡ test → pages1 id ≡ cond test (pages1 file) (pages1 id)
    by_test id true is = ap pages1 (bytes_same id file is)
    by_test id false is = refl

-- nothing changed
pub host_same : (h : HostAt) → HostStays h h
host_same h = record { held = same_holdings h.held; pages = λ id. refl }

-- an action that changes nothing
abbrev pub IsIdle : Action → Type 0
IsIdle (Refused status) = Unit {0}
IsIdle Info = Unit {0}
IsIdle Content = Unit {0}
IsIdle Sets = ⊥
IsIdle Removes = ⊥
IsIdle TellsLock = Unit {0}
IsIdle Replaces = ⊥
IsIdle Conflict = Unit {0}

idle : (a : Asking) (h : HostAt) (action : Action) → IsIdle action → ActsAt a h action h
idle a h (Refused status) is = record { kept = same_holdings h.held; marked = page_stays h.pages h.pages a.file (λ id. refl) }
idle a h Info is = record { kept = same_holdings h.held; marked = page_stays h.pages h.pages a.file (λ id. refl) }
idle a h Content is = record { kept = same_holdings h.held; marked = page_stays h.pages h.pages a.file (λ id. refl) }
idle a h Sets is = absurd is
idle a h Removes is = absurd is
idle a h TellsLock is = record { kept = same_holdings h.held; marked = page_stays h.pages h.pages a.file (λ id. refl) }
idle a h Replaces is = absurd is
idle a h Conflict is = record { kept = same_holdings h.held; marked = page_stays h.pages h.pages a.file (λ id. refl) }

-- the same of one that is equal to it
pub acts_idle : (a : Asking) (h : HostAt) (action other : Action) → action ≡ other → IsIdle other → ActsAt a h action h
acts_idle a h action other same is = idle a h action (subst (λ (x : Action). IsIdle x) (sym same) is)

-- the token gives no right
pub denied : (a : Asking) (h : HostAt) → AnswersAt None a h (bare 401) h
denied a h = record {
  content = (some_kept h.held a.file).0;
  action = Refused 401;
  kept = (some_kept h.held a.file).1;
  chosen = refl;
  told = refl;
  acts = record { kept = same_holdings h.held; marked = page_stays h.pages h.pages a.file (λ id. refl) };
}

-- the keeper lacks the file
pub missing : (a : Asking) (writer : Bool) (old new : HostAt) → IsKept old.held a.file None → HostStays old new
    → AnswersAt (Some writer) a old (bare 404) new
missing a writer old new kept same = record {
  content = None;
  action = Refused 404;
  kept = kept;
  chosen = refl;
  told = refl;
  acts = record { kept = same.held; marked = page_stays old.pages new.pages a.file same.pages };
}

-- the same for a token and a response that are equal to these
pub denied_at : (a : Asking) (right : Option Bool) (h : HostAt) (response : Response)
    → right ≡ None → response ≡ bare 401 → AnswersAt right a h response h
denied_at a right h response none told =
    subst (λ (x : Option Bool). AnswersAt x a h response h) (sym none)
    (subst (λ (x : Response). AnswersAt None a h x h) (sym told) (denied a h))

pub missing_at : (a : Asking) (writer : Bool) (content : Option (List ℕ)) (held1 held2 : Holdings) (pages : Pages) (response : Response)
    → content ≡ None → response ≡ bare 404 → IsKept held1 a.file content → SameHoldings held1 held2
    → AnswersAt (Some writer) a (record { held = held1; pages = pages }) response (record { held = held2; pages = pages })
missing_at a writer content held1 held2 pages response none told kept same =
    subst (λ (x : Response). AnswersAt (Some writer) a (record { held = held1; pages = pages }) x (record { held = held2; pages = pages })) (sym told)
    (missing a writer (record { held = held1; pages = pages }) (record { held = held2; pages = pages })
    (subst (λ (x : Option (List ℕ)). IsKept held1 a.file x) none kept) (record { held = same; pages = λ id. refl }))

-- the answer at the same files
pub answers_from : (right : Option Bool) (a : Asking) (held1 held2 : Holdings) (pages : Pages) (response : Response) (new : HostAt)
    → SameHoldings held1 held2
    → AnswersAt right a (record { held = held2; pages = pages }) response new
    → AnswersAt right a (record { held = held1; pages = pages }) response new
answers_from right a held1 held2 pages response new same answer = record {
  content = answer.content;
  action = answer.action;
  kept = kept_from held1 held2 a.file answer.content same answer.kept;
  chosen = answer.chosen;
  told = answer.told;
  acts = record {
    kept = held_from answer.action held1 held2 a.file a.request.body new.held same answer.acts.kept;
    marked = answer.acts.marked;
  };
}

-- what follows from an answer follows where it is given
pub if_ok_from : {A E : Type 0} (P Q : A → Type 0) (r : Result A E) → ((a : A) → P a → Q a) → IfOk r P → IfOk r Q
if_ok_from P Q (Ok a) from p = from a p
if_ok_from P Q (Err e) from p = tt

-- an error leaves the files that were the same
pub on_err_from : {A E : Type 0} (held1 held2 : Holdings) (pages : Pages) (new : HostAt) (r : Result A E) → SameHoldings held1 held2
    → OnErr r (HostStays (record { held = held2; pages = pages }) new) → OnErr r (HostStays (record { held = held1; pages = pages }) new)
on_err_from held1 held2 pages new (Ok x) p q = tt
on_err_from held1 held2 pages new (Err e) p q = record { held = same_trans held1 held2 new.held p q.held; pages = q.pages }

-- the path names nothing
pub nothing_at : (named : Named) (right : Option Bool) (h : HostAt) (r : Request) (now : ℕ) (response : Response)
    → named ≡ Nothing → response ≡ bare 404 → Answers named right h r now response h
nothing_at named right h r now response nothing told =
    subst (λ (x : Named). Answers x right h r now response h) (sym nothing) (told, host_same h)
