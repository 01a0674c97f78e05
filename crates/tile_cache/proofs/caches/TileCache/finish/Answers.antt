use Rattle.std.proofs.Common.{◌≡◌, ◌<◌, length, filter, nat_eq, List, ap, sym, ◌∙◌, arith}
use Rattle.lru.specs.LruCache.{LruCache}
use Rattle.tile_key.specs.Places.{Place}
use Rattle.tile_cache.specs.declared.tiles.Tile.{Tile}
use Rattle.tile_cache.specs.declared.outs.Out.{Out}
use Rattle.tile_cache.specs.Calls.{end_of, new_tiles, outs_of}
use Rattle.std.specs.Prelude.{map}
use Rattle.tile_cache.proofs.EndFacts.{sized_length, own_here, stranger_same, keys_answer, keys_kept}
use Rattle.tile_cache.proofs.caches.TileCache.finish.Goals as goal

pub returns-then-len-eq0-clause-ok : goal.returns-then-len-eq0-clause-ok
returns-then-len-eq0-clause-ok c =
    let s = c.self.inside in
    let own_is : c.in_ok-own.own.items ≡ filter (λ (out : Out). nat_eq out.ticket c.args.ticket.0) s.outs.items = c.in_ok-own.ensures ∙ ap (λ (os : List Out). filter (λ (out : Out). nat_eq out.ticket c.args.ticket.0) os) c.as_slice.ensures.value in
    sym c.self.view_is
    ∙ stranger_same c.args.ticket.0 s.tiles.entries s.outs.items s.next c.args.self.now c.self.view_is c.in_ok-own.own.items own_is c.args.pixels.now (omega (arith, c.in_ok-own.own.ok.0, c.len.ensures, c.if-len-eq0.true)) (omega (arith, c.len-count.ensures.valid.1, c.self.invariant.0))

pub new_tiles-requires : goal.new_tiles-requires
new_tiles-requires c =
    let s = c.self.inside in
    let own_is : c.in_ok-own.own.items ≡ filter (λ (out : Out). nat_eq out.ticket c.args.ticket.0) s.outs.items = c.in_ok-own.ensures ∙ ap (λ (os : List Out). filter (λ (out : Out). nat_eq out.ticket c.args.ticket.0) os) c.as_slice.ensures.value in
    let here : c.as_slice-3.result.now ≡ outs_of c.args.ticket.0 c.args.self.now = c.as_slice-3.ensures.value ∙ own_here c.args.ticket.0 s.tiles.entries s.outs.items s.next c.args.self.now c.self.view_is c.in_ok-own.own.items own_is in
    ap (λ (os : List Out). length os) here ∙ sized_length (outs_of c.args.ticket.0 c.args.self.now) c.args.pixels.now c.requires.sized

pub returns-clause-answer : goal.returns-clause-answer
returns-clause-answer c =
    let s = c.self.inside in
    let own_is : c.in_ok-own.own.items ≡ filter (λ (out : Out). nat_eq out.ticket c.args.ticket.0) s.outs.items = c.in_ok-own.ensures ∙ ap (λ (os : List Out). filter (λ (out : Out). nat_eq out.ticket c.args.ticket.0) os) c.as_slice.ensures.value in
    let ends_are : c.in_ok-ends.ends.items ≡ map end_of c.in_ok-own.own.items = c.in_ok-ends.ensures ∙ ap (λ (os : List Out). map end_of os) c.as_slice-2.ensures.value in
    let size : length c.as_slice-2.result.now ≡ length c.in_ok-own.own.items = ap (λ (os : List Out). length os) c.as_slice-2.ensures.value in
    let more : 0 < length c.in_ok-own.own.items = omega (arith, size, c.as_slice-2.ensures.len, c.len.ensures, c.if-len-eq0.false) in
    keys_answer c.args.ticket.0 s.tiles.entries s.outs.items s.next c.args.self.now c.self.view_is c.in_ok-own.own.items own_is c.in_ok-ends.ends.items more ends_are

pub returns-clause-ok : goal.returns-clause-ok
returns-clause-ok c =
    let s = c.self.inside in
    let own_is : c.in_ok-own.own.items ≡ filter (λ (out : Out). nat_eq out.ticket c.args.ticket.0) s.outs.items = c.in_ok-own.ensures ∙ ap (λ (os : List Out). filter (λ (out : Out). nat_eq out.ticket c.args.ticket.0) os) c.as_slice.ensures.value in
    let new_is : c.in_ok-new.new.items ≡ new_tiles c.in_ok-own.own.items c.args.pixels.now = c.in_ok-new.ensures ∙ ap (λ (os : List Out). new_tiles os c.args.pixels.now) c.as_slice-3.ensures.value in
    keys_kept c.args.ticket.0 s.tiles.entries s.outs.items s.next c.args.self.now c.self.view_is c.in_ok-own.own.items own_is c.args.pixels.now c.in_ok-new.new.items c.keep.new.tiles.entries c.end.new.outs.items new_is (ap (λ (t : LruCache Place Tile). t.entries) c.in_ok-keep.ensures.ok) c.end.ensures.others
