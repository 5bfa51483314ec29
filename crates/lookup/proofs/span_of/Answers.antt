-- `lookup::span_of` meets its contract: each arm is one of the four tests of the definition, and past all of them none holds.
use borrow.Author.Tests.{ne_eqb}
use Rattle.lookup.specs.Lookup.{span_of}
use Rattle.lookup.proofs.span_of.Goals as goal

pub returns-in_default : goal.returns-in_default
unfolding span_of
returns-in_default c =
    rw (ne_eqb _ 0xD c.in_default.in_default-own.rest.0.0.0.1, ne_eqb _ 0x8000001D c.in_default.in_default-own.rest.0.0.1, ne_eqb _ 0xB c.in_default.in_default-own.rest.0.1, ne_eqb _ 0x7 c.in_default.in_default-own.rest.1)

pub returns-in-13 : goal.returns-in-13
unfolding span_of
returns-in-13 c = rw c.in-13.is

pub returns-in-2147483677 : goal.returns-in-2147483677
unfolding span_of
returns-in-2147483677 c = rw c.in-2147483677.is

pub returns-in-11 : goal.returns-in-11
unfolding span_of
returns-in-11 c = rw c.in-11.is

pub returns-in-7 : goal.returns-in-7
unfolding span_of
returns-in-7 c = rw c.in-7.is
