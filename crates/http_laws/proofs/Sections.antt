-- Trailers lead to the end of the body.
use Rattle.std.proofs.Common.{ℕ, ◌≡◌, ◌+◌, ◌-◌, ◌<◌, ◌≤◌, true, false, cond, List, [], ◌∷◌, ◌++◌, length, refl, ap, ◌∙◌, arith, suc}
use Rattle.std.specs.List.{flat_map, All}
use Rattle.std.proofs.lemmas.List.{length-append}
use Rattle.httparse.specs.Grammar.{AllPass, is_token_byte, is_value_byte, LineEnd, crlf, lf, print_end, Field, IsField, print_field, print_section}
use Rattle.wire_body.specs.declared.states.Phase.TheVariants.{Trailer, Name, Value, ValueEnd, LastEnd, Done}
use Rattle.wire_body.specs.Bodies.{step, expects, ends_line}
use Rattle.http_laws.proofs.Leads.{place, Leads, leads_none, leads_then, leads_one, leads_first, in_line, first_passes, others_pass}

no_token_colon : is_token_byte 58 ≡ false
unfolding is_token_byte
no_token_colon = refl

no_token_return : is_token_byte 13 ≡ false
unfolding is_token_byte
no_token_return = refl

no_token_feed : is_token_byte 10 ≡ false
unfolding is_token_byte
no_token_feed = refl

name_first : (left room n m b : ℕ) → is_token_byte b ≡ true → n ≡ m + 1 → step (place Trailer left room n) b ≡ place Name left room m
name_first left room n m b is e =
    in_line Trailer left room n m b refl e ∙ ap (λ c. cond c (place Name left room m) (ends_line LastEnd (place Done left room m) (place Trailer left room m) b)) is

name_step : (left room n m b : ℕ) → is_token_byte b ≡ true → n ≡ m + 1 → step (place Name left room n) b ≡ place Name left room m
name_step left room n m b is e =
    in_line Name left room n m b refl e ∙ ap (λ c. cond c (place Name left room m) (expects 58 (place Value left room m) (place Name left room m) b)) is

colon_step : (left room n m : ℕ) → n ≡ m + 1 → step (place Name left room n) 58 ≡ place Value left room m
colon_step left room n m e =
    in_line Name left room n m 58 refl e ∙ ap (λ c. cond c (place Name left room m) (expects 58 (place Value left room m) (place Name left room m) 58)) no_token_colon

value_step : (left room n m b : ℕ) → is_value_byte b ≡ true → n ≡ m + 1 → step (place Value left room n) b ≡ place Value left room m
value_step left room n m b is e =
    in_line Value left room n m b refl e ∙ ap (λ c. cond c (place Value left room m) (ends_line ValueEnd (place Trailer left room m) (place Value left room m) b)) is

more_names : (xs : List ℕ) (left room n m : ℕ) → AllPass is_token_byte xs → n ≡ length xs + m → Leads (place Name left room n) xs (place Name left room m)
more_names [] left room n m all len = leads_none _ _ (ap (λ k. place Name left room k) (omega arith))
more_names (b ∷ xs) left room n m all len =
    leads_first b refl (name_step left room n (length xs + m) b (first_passes is_token_byte b xs all) (omega arith))
    (more_names xs left room (length xs + m) m (others_pass is_token_byte b xs all) refl)

names : (xs : List ℕ) (left room n m : ℕ) → 0 < length xs → AllPass is_token_byte xs → n ≡ length xs + m → Leads (place Trailer left room n) xs (place Name left room m)
names [] left room n m some all len = absurd (omega arith)
names (b ∷ xs) left room n m some all len =
    leads_first b refl (name_first left room n (length xs + m) b (first_passes is_token_byte b xs all) (omega arith))
    (more_names xs left room (length xs + m) m (others_pass is_token_byte b xs all) refl)

values : (xs : List ℕ) (left room n m : ℕ) → AllPass is_value_byte xs → n ≡ length xs + m → Leads (place Value left room n) xs (place Value left room m)
values [] left room n m all len = leads_none _ _ (ap (λ k. place Value left room k) (omega arith))
values (b ∷ xs) left room n m all len =
    leads_first b refl (value_step left room n (length xs + m) b (first_passes is_value_byte b xs all) (omega arith))
    (values xs left room (length xs + m) m (others_pass is_value_byte b xs all) refl)

-- a field's line end
value_end : (end : LineEnd) (left room n m : ℕ) → n ≡ length (print_end end) + m → Leads (place Value left room n) (print_end end) (place Trailer left room m)
value_end crlf left room n m len =
    leads_first 13 refl (in_line Value left room n (m + 1) 13 refl (omega arith))
    (leads_one (place ValueEnd left room (m + 1)) (place Trailer left room m) 10 refl (in_line ValueEnd left room (m + 1) m 10 refl refl))
value_end lf left room n m len =
    leads_one (place Value left room n) (place Trailer left room m) 10 refl (in_line Value left room n m 10 refl (omega arith))

-- the empty line
last_return : (left room n m : ℕ) → n ≡ m + 1 → step (place Trailer left room n) 13 ≡ place LastEnd left room m
last_return left room n m e =
    in_line Trailer left room n m 13 refl e ∙ ap (λ c. cond c (place Name left room m) (ends_line LastEnd (place Done left room m) (place Trailer left room m) 13)) no_token_return

last_feed : (left room n m : ℕ) → n ≡ m + 1 → step (place Trailer left room n) 10 ≡ place Done left room m
last_feed left room n m e =
    in_line Trailer left room n m 10 refl e ∙ ap (λ c. cond c (place Name left room m) (ends_line LastEnd (place Done left room m) (place Trailer left room m) 10)) no_token_feed

last_end : (end : LineEnd) (left room n m : ℕ) → n ≡ length (print_end end) + m → Leads (place Trailer left room n) (print_end end) (place Done left room m)
last_end crlf left room n m len =
    leads_first 13 refl (last_return left room n (m + 1) (omega arith))
    (leads_one (place LastEnd left room (m + 1)) (place Done left room m) 10 refl (in_line LastEnd left room (m + 1) m 10 refl refl))
last_end lf left room n m len =
    leads_one (place Trailer left room n) (place Done left room m) 10 refl (last_feed left room n m (omega arith))

field_len : (f : Field) → length (print_field f) ≡ length f.name + (1 + (length f.raw + length (print_end f.end)))
field_len f = omega (arith, length-append (f.name ++ (58 ∷ f.raw)) (print_end f.end), length-append f.name (58 ∷ f.raw))

-- one field line
field : (f : Field) (left room n m : ℕ) → IsField f → n ≡ length (print_field f) + m → Leads (place Trailer left room n) (print_field f) (place Trailer left room m)
field f left room n m ok len =
    leads_then
    (leads_then
    (names f.name left room n (1 + (length f.raw + (length (print_end f.end) + m))) ok.name.0 ok.name.1 (omega (arith, field_len f, len)))
    (leads_first 58 refl (colon_step left room (1 + (length f.raw + (length (print_end f.end) + m))) (length f.raw + (length (print_end f.end) + m)) (omega arith))
    (values f.raw left room (length f.raw + (length (print_end f.end) + m)) (length (print_end f.end) + m) ok.raw refl)))
    (value_end f.end left room (length (print_end f.end) + m) m refl)

fields_lead : (fs : List Field) (left room n m : ℕ) → All IsField fs → n ≡ length (flat_map print_field fs) + m → Leads (place Trailer left room n) (flat_map print_field fs) (place Trailer left room m)
fields_lead [] left room n m ok len = leads_none _ _ (ap (λ k. place Trailer left room k) (omega arith))
fields_lead (f ∷ fs) left room n m ok len =
    leads_then
    (field f left room n (length (flat_map print_field fs) + m) (ok 0 f (omega arith)) (omega (arith, len, length-append (print_field f) (flat_map print_field fs))))
    (fields_lead fs left room (length (flat_map print_field fs) + m) m (λ k d less. ok (suc k) d (omega arith)) refl)

-- the trailers and the empty line
pub section : (fs : List Field) (end : LineEnd) (left room n : ℕ) → All IsField fs → length (print_section fs end) ≤ n
    → (m : ℕ) × Leads (place Trailer left room n) (print_section fs end) (place Done left room m)
section fs end left room n ok within =
    let m : ℕ = n - length (print_section fs end) in (
      m,
      leads_then
          (fields_lead fs left room n (length (print_end end) + m) ok (omega (arith, length-append (flat_map print_field fs) (print_end end), within)))
          (last_end end left room (length (print_end end) + m) m refl),
    )
