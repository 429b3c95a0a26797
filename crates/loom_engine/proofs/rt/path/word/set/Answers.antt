use Rattle.loom_engine.proofs.Path.Words.{is_set, still_fits, sum_of, whole_number}
use Rattle.loom_engine.proofs.rt.path.word.set.Goals as goal

pub overflow_add-result : goal.overflow_add-result
overflow_add-result c =
    let a = c.args in
    rw (whole_number a.count a.number c.requires.few c.requires.fits)
    (record { fits = still_fits a.low a.count a.number a.word _ c.requires.fits (sum_of a.low a.count a.number a.word c.bits.result c.requires.within c.requires.fits c.bits.ensures) c.requires.within c.ranges.word.fits })

pub returns : goal.returns
returns c =
    let a = c.args in
    rw (whole_number a.count a.number c.requires.few c.requires.fits)
    (is_set a.low a.count a.number a.word _ c.requires.fits (sum_of a.low a.count a.number a.word c.bits.result c.requires.within c.requires.fits c.bits.ensures))
