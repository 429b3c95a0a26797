use Rattle.std.proofs.Common.{[], refl}
use Rattle.loom_examples.specs.Rows.Meanings.{named}
use Rattle.loom_examples.proofs.Tables.Joining.{are_table, behind}
use Rattle.loom_examples.proofs.rows.tables.all_rows.Goals as goal

pub returns : goal.returns
returns c =
    let walks = behind named _ [] _ [] c.rows-6.ensures refl in
    let limits = behind named _ _ _ _ c.rows-5.ensures walks in
    let exploring = behind named _ _ _ _ c.rows-4.ensures limits in
    let values = behind named _ _ _ _ c.rows-3.ensures exploring in
    let wakers = behind named _ _ _ _ c.rows-2.ensures values in
    let ends = behind named _ _ _ _ c.ends.ensures wakers in
    let messages = behind named _ _ _ _ c.messages.ensures ends in
    let others = behind named _ _ _ _ c.others.ensures messages in
    let wakings = behind named _ _ _ _ c.wakings.ensures others in
    let condvars = behind named _ _ _ _ c.condvars.ensures wakings in
    let rwlocks = behind named _ _ _ _ c.rwlocks.ensures condvars in
    let mutexes = behind named _ _ _ _ c.mutexes.ensures rwlocks in
    let main_alone = behind named _ _ _ _ c.main_alone.ensures mutexes in
    let synchronized = behind named _ _ _ _ c.synchronized.ensures main_alone in
    let turns = behind named _ _ _ _ c.turns.ensures synchronized in
    let reads_of_threads = behind named _ _ _ _ c.reads_of_threads.ensures turns in
    let reads_at_once = behind named _ _ _ _ c.reads_at_once.ensures reads_of_threads in
    let writes_at_once = behind named _ _ _ _ c.writes_at_once.ensures reads_at_once in
    let causality = behind named _ _ _ _ c.causality.ensures writes_at_once in
    let flags = behind named _ _ _ _ c.flags.ensures causality in
    let updates = behind named _ _ _ _ c.updates.ensures flags in
    let fences = behind named _ _ _ _ c.fences.ensures updates in
    let unsynchronized = behind named _ _ _ _ c.unsynchronized.ensures fences in
    let functions = behind named _ _ _ _ c.functions.ensures unsynchronized in
    let orderings = behind named _ _ _ _ c.orderings.ensures functions in
    let buffering = behind named _ _ _ _ c.buffering.ensures orderings in
    let loads = behind named _ _ _ _ c.loads.ensures buffering in
    let failing = behind named _ _ _ _ c.failing.ensures loads in
    let few_threads = behind named _ _ _ _ c.rows.ensures failing in
    are_table c.joined.result (λ all. all.items) _ c.joined.ensures few_threads
