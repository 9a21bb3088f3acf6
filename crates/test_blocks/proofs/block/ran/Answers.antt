use Rattle.std.proofs.Common.{◌≡◌, ◌<◌, map, length, refl, sym, ap, ◌∙◌, subst, arith, vec_len}
use Rattle.fv_ready.specs.Boards.{about_of}
use Rattle.fv_ready.specs.Counted.{HaveAll}
use Rattle.fv_steal.specs.Crews.{seat_of}
use Rattle.test_blocks.proofs.Noting.{written}
use Rattle.test_blocks.proofs.block.ran.Goals as goal

pub work-requires-clause-body : goal.work-requires-clause-body
work-requires-clause-body g c κs within =
    let some : 0 < vec_len c.in_ok-list.list = let l = c.in_ok-list.ensures.len in let v = c.loops.ensures.value in
    let s = c.loops.ensures.graph.some_loop in omega arith in (
      refl,
      sym (c.in_ok-list.ensures.block 0 (record { edge = 0; block = 9 }) (let o = c.in_ok-list.list.ok.0 in omega arith))
          ∙ c.in-Ok.ensures.key 0 (record { edge = 0; block = 9 }) some,
    )

pub close-done-requires-clause-all : goal.close-done-requires-clause-all
close-done-requires-clause-all g c =
    let ws = c.in-Ok-crew.workers in let new = c.work.new.workers in
    let all : vec_len ws ≡ length new = let a = c.work.auto.workers in let v = ap length c.as_mut_slice.ensures.value in let o = ws.ok.0 in omega arith in
    let same : map seat_of new ≡ c.seats_of.result.items = sym (c.seats_of.ensures ∙ ap (map seat_of) (written (vec_len ws) new ws.items all)) in
    subst (λ ss. HaveAll (about_of c.in-Ok.made.0).workers ss) same c.work.ensures.seats.1
