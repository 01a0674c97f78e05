-- The table allows one answer.
use Rattle.std.proofs.Common.{ℕ, ◌≡◌, List, Option, Some, None, Bool, true, false, sym, ap, ◌∙◌, subst, cond, bytes_eq}
use Rattle.http_message.specs.declared.Request.{Request}
use Rattle.http_message.specs.declared.Response.{Response}
use Rattle.wopi_host.specs.declared.table.Action.{Action}
use Rattle.wopi_host.specs.declared.table.Action.TheVariants.{Refused, Info, Content, Sets, Removes, TellsLock, Replaces, Conflict}
use Rattle.wopi_host.specs.declared.marks.Marks.{Marks}
use Rattle.wopi_host.specs.Keepers.{Files, Holdings, IsIn, IsKept, Puts, Keeps, SameFiles, SameHoldings}
use Rattle.wopi_host.specs.Marks.{marks_after}
use Rattle.wopi_host.specs.Targets.{Named, Nothing, TheFile, TheContents}
use Rattle.wopi_host.specs.Hosts.{Pages, SamePages, WritesPage, HostAt, HostStays, Asking, HeldAfter, AnswersAt, Answers, chosen_action, told_response, told_host}

one_content : (files : Files) (file : List ℕ) (a b : Option (List ℕ)) → IsIn (Some files) file a → IsIn (Some files) file b → a ≡ b
unfolding IsIn
one_content files file a b p q = sym p ∙ q

files_both : (f : Files) (b c : Option Files) → SameFiles (Some f) b → SameFiles (Some f) c → SameFiles b c
unfolding SameFiles
files_both f None c p q = absurd p
files_both f (Some g) None p q = absurd q
files_both f (Some g) (Some h) p q = λ id. q id ∙ sym (p id)

puts_both : (f : Files) (file content : List ℕ) (b c : Option Files) → Puts (Some f) file content b → Puts (Some f) file content c → SameFiles b c
unfolding SameFiles Puts
puts_both f file content None c p q = absurd p
puts_both f file content (Some g) None p q = absurd q
puts_both f file content (Some g) (Some h) p q = λ id. q id ∙ sym (p id)

-- what a keeper holds that tells its files
abbrev told : Files → ℕ → Holdings
told files accepted = record { files = Some files; accepted = accepted }

same_both : (f : Files) (n : ℕ) (b c : Holdings) → SameHoldings (told f n) b → SameHoldings (told f n) c → SameHoldings b c
same_both f n b c p q = record { files = files_both f b.files c.files p.files q.files; accepted = q.accepted ∙ sym p.accepted }

keeps_both : (f : Files) (n : ℕ) (file content : List ℕ) (b c : Holdings) → Keeps (told f n) file content b → Keeps (told f n) file content c → SameHoldings b c
keeps_both f n file content b c p q = record { files = puts_both f file content b.files c.files p.files q.files; accepted = q.accepted ∙ sym p.accepted }

after_both : (action : Action) (f : Files) (n : ℕ) (file body : List ℕ) (b c : Holdings) → HeldAfter action (told f n) file body b → HeldAfter action (told f n) file body c → SameHoldings b c
after_both (Refused status) f n file body b c p q = same_both f n b c p q
after_both Info f n file body b c p q = same_both f n b c p q
after_both Content f n file body b c p q = same_both f n b c p q
after_both Sets f n file body b c p q = same_both f n b c p q
after_both Removes f n file body b c p q = same_both f n b c p q
after_both TellsLock f n file body b c p q = same_both f n b c p q
after_both Replaces f n file body b c p q = keeps_both f n file body b c p q
after_both Conflict f n file body b c p q = same_both f n b c p q

pages_both : (pages pages1 pages2 : Pages) (file : List ℕ) (one two : Marks) → one ≡ two → WritesPage pages file one pages1 → WritesPage pages file two pages2 → SamePages pages1 pages2
pages_both pages pages1 pages2 file one two same p q = λ id. q id ∙ sym (p id ∙ ap (λ m. cond (bytes_eq id file) m (pages id)) same)

one_at : (right : Option Bool) (a : Asking) (files : Files) (accepted : ℕ) (pages : Pages) (one two : Response) (new1 new2 : HostAt)
    → AnswersAt right a (told_host files accepted pages) one new1 → AnswersAt right a (told_host files accepted pages) two new2
    → (one ≡ two) × HostStays new1 new2
one_at right a files accepted pages one two new1 new2 p q =
    let content : p.content ≡ q.content = one_content files a.file p.content q.content p.kept q.kept in
    let action : p.action ≡ q.action = p.chosen ∙ ap (λ c. chosen_action right a c (told_host files accepted pages)) content ∙ sym q.chosen in (
      p.told ∙ (λ i. told_response right a (content i) (told_host files accepted pages) (action i)) ∙ sym q.told,
      record {
        held = after_both q.action files accepted a.file a.request.body new1.held new2.held
            (subst (λ (v : Action). HeldAfter v (told files accepted) a.file a.request.body new1.held) action p.acts.kept) q.acts.kept;
        pages = pages_both pages new1.pages new2.pages a.file _ _
            (ap (λ v. marks_after v (pages a.file) a.request.lock a.now) action) p.acts.marked q.acts.marked;
      },
    )

pub one_answer : (named : Named) (right : Option Bool) (files : Files) (accepted : ℕ) (pages : Pages) (r : Request) (now : ℕ) (one two : Response) (new1 new2 : HostAt)
    → Answers named right (told_host files accepted pages) r now one new1 → Answers named right (told_host files accepted pages) r now two new2
    → (one ≡ two) × HostStays new1 new2
one_answer Nothing right files accepted pages r now one two new1 new2 p q =
    (p.0 ∙ sym q.0, record { held = same_both files accepted new1.held new2.held p.1.held q.1.held; pages = λ id. q.1.pages id ∙ sym (p.1.pages id) })
one_answer (TheFile file) right files accepted pages r now one two new1 new2 p q =
    one_at right (record { file = file; contents = false; request = r; now = now }) files accepted pages one two new1 new2 p q
one_answer (TheContents file) right files accepted pages r now one two new1 new2 p q =
    one_at right (record { file = file; contents = true; request = r; now = now }) files accepted pages one two new1 new2 p q
