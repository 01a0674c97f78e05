-- What is told of a wire grows piece by piece.
use Rattle.std.proofs.Common.{ℕ, ◌+◌, ◌-◌, ◌≡◌, ◌≤◌, Bool, true, false, ◌||◌, List, [], ◌++◌, length, take, drop, Option, Some, None, refl, ap, sym, ◌∙◌, arith, append_assoc, append-nil}
use Rattle.std.proofs.Math.Seq.{take-add}
use Rattle.std.specs.Option.{option_map}
use Rattle.outside.specs.Wires.{Talk, Says, Hears, with_received, with_sent}

-- the next bytes of those that a wire in memory has
pub next_received : (sent incoming into : List ℕ) (given count : ℕ) (ended : Bool) (talk : Talk)
    → record { sent = sent; received = take given incoming; ended = ended } ≡ talk
    → take count into ≡ take count (drop given incoming)
    → Some (record { sent = sent; received = take (given + count) incoming; ended = ended })
    ≡ Some (with_received (take count into) false talk)
next_received sent incoming into given count ended talk is_talk is_front =
    let grown : take (given + count) incoming ≡ take given incoming ++ take count into =
    take-add given count incoming ∙ ap (λ xs. take given incoming ++ xs) (sym is_front) in
    ap (λ xs. Some (record { sent = sent; received = xs; ended = ended })) grown
    ∙ ap (λ (t : Talk). Some (with_received (take count into) false t)) is_talk

-- nothing said
pub says_nothing : (t : Option Talk) → Says t [] t
says_nothing None = refl
says_nothing (Some t) = ap (λ xs. Some (record t { sent = xs })) (sym (append-nil t.sent))

-- one piece and then another
pub says_more : (a b c : Option Talk) (xs ys : List ℕ) → Says a xs b → Says b ys c → Says a (xs ++ ys) c
says_more None b c xs ys first second = second ∙ ap (λ t. option_map (with_sent ys) t) first
says_more (Some t) b c xs ys first second =
    second ∙ ap (λ t. option_map (with_sent ys) t) first
    ∙ ap (λ zs. Some (record t { sent = zs })) (append_assoc t.sent xs ys)

-- nothing heard
pub hears_nothing : (t : Option Talk) → Hears t [] false t
hears_nothing None = refl
hears_nothing (Some t) = ap (λ xs. Some (record t { received = xs })) (sym (append-nil t.received))

-- one piece and then another, where the end came behind the last at most
pub hears_more : (a b c : Option Talk) (xs ys : List ℕ) (ended : Bool) → Hears a xs false b → Hears b ys ended c → Hears a (xs ++ ys) ended c
hears_more None b c xs ys ended first second = second ∙ ap (λ t. option_map (with_received ys ended) t) first
hears_more (Some t) b c xs ys ended first second =
    second ∙ ap (λ t. option_map (with_received ys ended) t) first
    ∙ ap (λ zs. Some (record t { received = zs; ended = ended || t.ended })) (append_assoc t.received xs ys)
