use Rattle.loom_objects.proofs.rt.cell.cell_begins.Goals as goal

pub returns-in_ok-cell_new-in-New-clause-does : goal.returns-in_ok-cell_new-in-New-clause-does
returns-in_ok-cell_new-in-New-clause-does g c = rw c.in-New.is c.in_ok-cell_new-in-New.ensures

pub returns-in-Read-clause-does : goal.returns-in-Read-clause-does
returns-in-Read-clause-does g c = rw (c.in-Read.is, c.memory_outside.ensures) c.cell_read.ensures

pub returns-in-ReadEnd-clause-does : goal.returns-in-ReadEnd-clause-does
returns-in-ReadEnd-clause-does g c = rw c.in-ReadEnd.is c.cell_read_end.ensures

pub returns-in-Deref-clause-does : goal.returns-in-Deref-clause-does
returns-in-Deref-clause-does g c = rw (c.in-Deref.is, c.memory_outside-in-Deref.ensures) c.cell_deref.ensures

pub returns-in-Write-clause-does : goal.returns-in-Write-clause-does
returns-in-Write-clause-does g c = rw c.in-Write.is c.cell_write.ensures

pub returns-in-WriteEnd-clause-does : goal.returns-in-WriteEnd-clause-does
returns-in-WriteEnd-clause-does g c = rw c.in-WriteEnd.is c.cell_write_end.ensures

pub returns-in-IntoInner-clause-does : goal.returns-in-IntoInner-clause-does
returns-in-IntoInner-clause-does g c = rw c.in-IntoInner.is c.cell_into_inner.ensures

pub returns-in-Get-clause-does : goal.returns-in-Get-clause-does
returns-in-Get-clause-does g c = rw (c.in-Get.is, c.memory_outside-in-Get.ensures) c.cell_get.ensures

pub returns-in-Replace-clause-does : goal.returns-in-Replace-clause-does
returns-in-Replace-clause-does g c = rw c.in-Replace.is c.cell_replace.ensures

pub returns-in-Swap-clause-does : goal.returns-in-Swap-clause-does
returns-in-Swap-clause-does g c = rw c.in-Swap.is c.cell_swap.ensures
