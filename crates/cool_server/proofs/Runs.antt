-- Wires that are served one after the other.
use Rattle.std.proofs.Common.{ℕ, ◌≡◌, inl, inr, ◌+◌, ◌-◌, ◌<◌, Ok, Err, length, List, [], ◌∷◌, ◌++◌, Option, Some, None, refl, ap, sym, ◌∙◌, subst, append_assoc, append-nil, length-append, arith}
use Rattle.std.specs.Option.{option_map}
use Rattle.edge.specs.Edges.{EdgeTold, WireEnd, wire_given, wire_closed}
use Rattle.edge.specs.declared.EdgeFault.{EdgeFault}
use Rattle.edge.specs.declared.EdgeFault.TheVariants.{Net, Memory as EdgeMemory}
use Rattle.cool_server.specs.Hosting.{Hosting, Serves, RunsOut, ServesAll, ServesNext, ServesWires, Done, EdgeFailed, OutOfMemory, OutAtLast, fault_status, wires_closed}

-- one wire more
pub serves_more : (a c b : Hosting) (front : List WireEnd) (wire : WireEnd) → ServesAll a front c → Serves c wire b → ServesAll a (front ++ wire ∷ []) b
serves_more a c b [] wire all one = (b, subst (λ (h : Hosting). Serves h wire b) all one, refl)
serves_more a c b (first ∷ front) wire all one = (all.0, all.1, serves_more all.0 c b front wire all.2 one)

-- no wire
pub closed_none : (t : EdgeTold) → wires_closed [] t ≡ t
closed_none t = ap (λ (w : Option (List WireEnd)). record t { wires = w }) (same t.wires)
  where
    same : (w : Option (List WireEnd)) → option_map (λ (wires : List WireEnd). wires ++ []) w ≡ w
    same None = refl
    same (Some wires) = ap (λ (ws : List WireEnd). Some ws) (append-nil wires)

-- some wires and then one more
pub closed_more : (t : EdgeTold) (front back : List WireEnd) → wires_closed back (wires_closed front t) ≡ wires_closed (front ++ back) t
closed_more t front back = ap (λ (w : Option (List WireEnd)). record t { wires = w }) (same t.wires)
  where
    same : (w : Option (List WireEnd)) → option_map (λ (wires : List WireEnd). wires ++ back) (option_map (λ (wires : List WireEnd). wires ++ front) w) ≡ option_map (λ (wires : List WireEnd). wires ++ (front ++ back)) w
    same None = refl
    same (Some wires) = ap (λ (ws : List WireEnd). Some ws) (append_assoc wires front back)

-- a wire that was accepted and closed
pub given_and_closed : (t : EdgeTold) (wire : WireEnd) → wire_closed wire (wire_given t) ≡ wires_closed (wire ∷ []) t
given_and_closed t wire =
    let back : t.wires_out + 1 - 1 ≡ t.wires_out = omega arith in
    ap (λ (n : ℕ). record t { wires = option_map (λ (wires : List WireEnd). wires ++ wire ∷ []) t.wires; wires_out = n }) back

closed_after : (t1 t2 t3 : EdgeTold) (wire : WireEnd) → t2 ≡ wire_given t1 → t3 ≡ wire_closed wire t2 → t3 ≡ wires_closed (wire ∷ []) t1
closed_after t1 t2 t3 wire given closed = closed ∙ ap (wire_closed wire) given ∙ given_and_closed t1 wire

-- a wire that was accepted and closed was served, or memory ran out at it
pub next_served : (t1 t2 t3 : EdgeTold) (wire : WireEnd) (a b : Hosting) (done : Unit {0}) → t2 ≡ wire_given t1 → t3 ≡ wire_closed wire t2 → Serves a wire b
    → ServesNext t1 a (Ok done) t3 b
next_served t1 t2 t3 wire a b done given closed serves = (wire, closed_after t1 t2 t3 wire given closed, serves)

pub next_out : (t1 t2 t3 : EdgeTold) (wire : WireEnd) (a b : Hosting) → t2 ≡ wire_given t1 → t3 ≡ wire_closed wire t2 → RunsOut a wire b
    → ServesNext t1 a (Err EdgeMemory) t3 b
next_out t1 t2 t3 wire a b given closed starves = inr (wire, closed_after t1 t2 t3 wire given closed, starves)

-- wires that were served so far, with so many left where some are wanted
pub record SoFar (wanted left : ℕ) (t1 : EdgeTold) (a : Hosting) (t2 : EdgeTold) (b : Hosting) : Type 0 where
  pub ends : List WireEnd
  pub told : t2 ≡ wires_closed ends t1
  pub served : ServesAll a ends b
  pub count : 0 < wanted → (left + length ends ≡ wanted) × (0 < left)

pub so_far_none : (wanted : ℕ) (t : EdgeTold) (a : Hosting) → SoFar wanted wanted t a t a
so_far_none wanted t a = record {
  ends = [];
  told = sym (closed_none t);
  served = refl;
  count = λ some. (omega arith, some);
}

longer : (front : List WireEnd) (wire : WireEnd) → length (front ++ wire ∷ []) ≡ length front + 1
longer front wire = length-append front (wire ∷ [])

told_more : (t1 t2 t3 : EdgeTold) (front : List WireEnd) (wire : WireEnd) → t2 ≡ wires_closed front t1 → t3 ≡ wires_closed (wire ∷ []) t2 → t3 ≡ wires_closed (front ++ wire ∷ []) t1
told_more t1 t2 t3 front wire first second = second ∙ ap (wires_closed (wire ∷ [])) first ∙ closed_more t1 front (wire ∷ [])

-- one more, and some are left or none are wanted
pub so_far_more : (wanted left fewer : ℕ) (t1 t2 t3 : EdgeTold) (a b c : Hosting) (done : Unit {0}) → SoFar wanted left t1 a t2 b → ServesNext t2 b (Ok done) t3 c
    → (0 < wanted → (fewer + 1 ≡ left) × (0 < fewer)) → SoFar wanted fewer t1 a t3 c
so_far_more wanted left fewer t1 t2 t3 a b c done so next less = record {
  ends = so.ends ++ next.0 ∷ [];
  told = told_more t1 t2 t3 so.ends next.0 so.told next.1;
  served = serves_more a b c so.ends next.0 so.served next.2;
  count = λ some. let is = longer so.ends next.0 in let before = so.count some in let now = less some in (omega (arith, is, before.0, now.0), now.1);
}

-- the last one that was wanted
pub so_far_all : (wanted left : ℕ) (t1 t2 t3 : EdgeTold) (a b c : Hosting) (done : Unit {0}) → SoFar wanted left t1 a t2 b → ServesNext t2 b (Ok done) t3 c
    → 0 < wanted → left ≡ 1 → ServesWires wanted t1 a 0 t3 c
so_far_all wanted left t1 t2 t3 a b c done so next some last =
    let is = longer so.ends next.0 in
    let before = so.count some in
    let all : length (so.ends ++ next.0 ∷ []) ≡ wanted = omega (arith, is, before.0, last) in
    record {
      ends = so.ends ++ next.0 ∷ [];
      told = told_more t1 t2 t3 so.ends next.0 so.told next.1;
      most = λ _. omega (arith, all);
      ended = Done refl some all (serves_more a b c so.ends next.0 so.served next.2);
    }

-- the next one came to nothing
pub so_far_failed : (wanted left : ℕ) (t1 t2 t3 : EdgeTold) (a b c : Hosting) (fault : EdgeFault) → SoFar wanted left t1 a t2 b → ServesNext t2 b (Err fault) t3 c
    → ServesWires wanted t1 a (fault_status fault) t3 c
so_far_failed wanted left t1 t2 t3 a b c Net so next = record {
  ends = so.ends;
  told = next.0 ∙ so.told;
  most = λ some. let before = so.count some in omega (arith, before.0);
  ended = EdgeFailed refl (subst (λ (h : Hosting). ServesAll a so.ends h) (sym next.1) so.served);
}
so_far_failed wanted left t1 t2 t3 a b c EdgeMemory so (inl next) = record {
  ends = so.ends;
  told = next.0 ∙ so.told;
  most = λ some. let before = so.count some in omega (arith, before.0);
  ended = OutOfMemory refl (subst (λ (h : Hosting). ServesAll a so.ends h) (sym next.1) so.served);
}
so_far_failed wanted left t1 t2 t3 a b c EdgeMemory so (inr next) = record {
  ends = so.ends ++ next.0 ∷ [];
  told = told_more t1 t2 t3 so.ends next.0 so.told next.1;
  most = λ some. let is = longer so.ends next.0 in let before = so.count some in omega (arith, is, before.0, before.1);
  ended = OutAtLast so.ends next.0 b refl refl so.served next.2;
}
