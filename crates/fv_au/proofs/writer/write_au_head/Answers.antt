use Rattle.fv_au.proofs.writer.write_au_head.Goals as goal

pub returns-clause-ok : goal.returns-clause-ok
returns-clause-ok g c =
    let h = c.in_ok-write_pieces.ensures.ok in
    let k = simp (c.as_slice.ensures, c.four.ensures, c.four-2.ensures, c.four-3.ensures, c.four-4.ensures, c.four-5.ensures) at h in k
