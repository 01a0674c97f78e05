-- Rows, computed on the definitions: a kind of document without parts to speak of.
use Rattle.std.proofs.Common.{◌≡◌, ℕ, ◌+◌, true, false, List, [], ◌∷◌, length, Option, None}
use Rattle.std.proofs.Common.{Some, Err, nat_eq, codes, refl}
use Rattle.cool_frame.specs.Frames.{frame_bytes}
use Rattle.cool_frame.specs.declared.frame.Frame.TheVariants.{Server}
use Rattle.kit_trait.specs.Pictures.{white}
use Rattle.kit_trait.specs.Rules.{Rules}
use Rattle.kit_trait.specs.declared.values.KitName.TheVariants.{Patch}
use Rattle.outside.specs.declared.faults.StoreFault.TheVariants.{Denied}
use Rattle.document_machine.specs.Held.{Held, opening_held}
use Rattle.document_machine.specs.Outputs.{one_frame}
use Rattle.load_address.specs.declared.served.Served.{Served}
use Rattle.poll_instance.specs.Instance.{given_out, opened, ways}

-- its contents are how many inputs there were; it accepts only the empty file
abbrev counts : Rules ℕ ℕ
counts = record {
  name = Patch;
  accepts = λ file. nat_eq (length file) 0;
  start = λ file. 0;
  step = λ count input. count + 1;
  hurt = λ count input. [];
  body = λ count. count;
  colour = λ body look part x y. white;
  text = λ body. [];
  parts = λ body. 1;
  size = λ body part. record { w = 1; h = 1 };
}

abbrev here : Served
here = record { host = Some (codes "wopi.test"); port = 80 }

-- a file that is refused, and one that is opened
refused_file : opened {C = ℕ} {B = ℕ} {S = ℕ} counts (codes "d1") (1 ∷ []) ≡ None
refused_file = refl

opened_file : opened {C = ℕ} {B = ℕ} {S = ℕ} counts (codes "d1") []
    ≡ Some (Some (opening_held (codes "d1") []))
opened_file = refl

-- a greeting's frame is given on as its bytes
greeted : given_out {S = ℕ} (one_frame 3 Server)
    ≡ record { frames = (3, frame_bytes Server) ∷ []; works = [] }
greeted = refl

-- a document that was just opened is done, isn't lost and isn't full, and a put's answer gives it
-- no lock
abbrev fresh : Option (Held ℕ)
fresh = Some (opening_held (codes "d1") [])

is_done_at_first : (ways counts (λ count place. count) here).is_done fresh ≡ true
is_done_at_first = refl

is_not_lost_at_first : (ways counts (λ count place. count) here).is_lost fresh ≡ false
is_not_lost_at_first = refl

is_not_full_at_first : (ways counts (λ count place. count) here).is_full fresh ≡ false
is_not_full_at_first = refl

no_lock : (ways counts (λ count place. count) here).lock_of fresh 1 (Err Denied) ≡ None
no_lock = refl
