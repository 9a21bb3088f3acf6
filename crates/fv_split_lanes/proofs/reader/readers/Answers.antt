use Rattle.std.proofs.Common.{◌≡◌, ◌+◌, suc, length, ap, ◌∙◌, subst, arith}
use Rattle.fv_components.specs.Reach.{next_of}
use Rattle.fv_split_lanes.specs.declared.reader.Reader.TheVariants.{Nobody}
use Rattle.fv_split_lanes.specs.inner.Readers.{reader_at, AreReaders}
use Rattle.fv_split_lanes.proofs.lemmas.RowLemmas.{each_same}
use Rattle.fv_split_lanes.proofs.ReaderLemmas.{no_readers, more_readers, row_inside}
use Rattle.fv_split_lanes.proofs.reader.readers.Goals as goal

pub loop-r-init : goal.loop-r-init
loop-r-init c =
    let reads = c.args.reads.now in
    let readers = c.in_ok-readers.readers.items in
    let blank = c.in_ok-readers.ensures.items_if_clones_equal (λ y e. e) in
    no_readers (next_of reads) (length reads) readers (omega (arith, c.in_ok-readers.readers.ok.0, c.in_ok-readers.ensures.len, c.len.ensures))
    (λ s. ap (λ rs. reader_at rs s) blank ∙ each_same c.len.result s Nobody)

pub meet_row-requires : goal.meet_row-requires
meet_row-requires c =
    let long = c.loop-r.invariant.long in
    let reads = c.args.reads.now in
    let below = c.loop-r-test.true in
    λ k d l. let z = row_inside (next_of reads) (length reads) c.loop-r.r c.row.result.now c.requires (omega arith) c.row.ensures k d l in omega
    (arith, long, z)

pub loop-r-preserved : goal.loop-r-preserved
loop-r-preserved c =
    let reads = c.args.reads.now in
    let z : suc c.loop-r.r ≡ c.loop-r.r + 1 = omega arith in
    subst (λ k. AreReaders (next_of reads) (length reads) k c.meet_row.new.readers.items) z
    (more_readers (next_of reads) (length reads) c.loop-r.r c.loop-r.readers.items c.meet_row.new.readers.items c.row.result.now c.requires (omega arith)
    c.row.ensures c.meet_row.ensures c.loop-r.invariant)

pub returns : goal.returns
returns c =
    let reads = c.args.reads.now in
    let z : c.loop-r.r ≡ length reads = omega arith in
    subst (λ k. AreReaders (next_of reads) (length reads) k c.loop-r.readers.items) z c.loop-r.invariant
