-- Steps that many scripts have.
use Rattle.loom_objects.specs.declared.operation.Request.TheVariants as op
use Rattle.loom_objects.specs.declared.operation.ThreadOp.TheVariants as threads
use Rattle.loom_examples.specs.Scripts.Written.{Written, Do}

-- the thread gives its locals back
abbrev pub exit : Written
exit = Do 0 (op.Thread threads.Exit)

-- the thread's last operation
abbrev pub end : Written
end = Do 0 (op.Thread threads.End)

-- the thread waits for a token
abbrev pub park : Written
park = Do 0 (op.Thread threads.Park)

-- the thread lets others go on first
abbrev pub yield : Written
yield = Do 0 (op.Thread threads.Yield)

-- the script's assertion fails
abbrev pub fail : Written
fail = Do 0 op.Fail
