-- `pool::write::write_pool_image` meets its contract: the pool's refusal, or its table's image written.
use mathlib.Core.Path.{ap, ◌∙◌}
use Rattle.buffer.specs.Front.{AfterWrite}
use Rattle.buffer.specs.VerdictLaws.{verdict_accepted}
use Rattle.image.specs.Image.{image}
use Rattle.pool.specs.WritePool.{write_pool}
use Rattle.pool.proofs.write.write_pool_image.Goals as goal

pub returns : goal.returns
unfolding write_pool
returns c = let e = verdict_accepted _ c.args.out.now c.pool_into-pooled.ensures.verdict c.in_ok-pooled.was (ap image c.pool_into-pooled.ensures.table) in record { value = c.write_table.ensures.0 ∙ ap (λ (o : AfterWrite). o.answer) e; out_after = c.write_table.ensures.1 ∙ ap (λ (o : AfterWrite). o.buffer) e }
