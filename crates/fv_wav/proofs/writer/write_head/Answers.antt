use Rattle.fv_wav.proofs.writer.write_head.Goals as goal

pub returns-clause-ok : goal.returns-clause-ok
returns-clause-ok g c =
    let h = c.in_ok-write_pieces.ensures.ok in
    let k = simp (
      c.as_slice.ensures,
      c.as_slice-2.ensures,
      c.as_slice-3.ensures,
      c.four.ensures,
      c.two.ensures,
      c.four-2.ensures,
      c.four-3.ensures,
      c.two-2.ensures,
      c.two-3.ensures,
      c.four-4.ensures,
    ) at h in k
