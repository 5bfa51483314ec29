-- `answers::found_at` meets its contract: the row that the lookup finds, with its origin.
use borrow.Author.Rules.{rules}
use mathlib.Core.Path.{ap, ◌∙◌}
use Rattle.x86defs.specs.Functions.{function}
use Rattle.memory.specs.Held.{held_in}
use Rattle.lookup.specs.Lookup.{lookup, lookup_origin}
use Rattle.answers.specs.Answers.{found_numbers, given_located}
use Rattle.answers.proofs.found_at.Goals as goal

pub returns : goal.returns
returns c =
    c.from.ensures
    ∙ ap found_numbers c.find.ensures
    ∙ given_located (lookup (held_in c.args.registers.now c.args.origins.now) (function c.args.leaf) c.args.subleaf c.args.enforce_subleaf)
    (lookup_origin c.args.origins.now (function c.args.leaf) c.args.subleaf c.args.enforce_subleaf)
