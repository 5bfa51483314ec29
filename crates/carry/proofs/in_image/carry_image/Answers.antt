-- `carry::in_image::carry_image` meets its contract: the image read, its table carried, and its bytes written over the old ones.
use Rattle.carry.specs.CarryImageLaws.{image_none, image_refused, image_written}
use Rattle.carry.proofs.in_image.carry_image.Goals as goal

pub returns-in-Err : goal.returns-in-Err
returns-in-Err c = let both = image_refused c.args.image.now c.args.from c.args.to c.args.xcr0 c.args.xss c.read_image.ensures.read_in.image c.if-read_image.true
    c.read_image.ensures.held c.carry-verdict.ensures c.in-Err.is in record { value = both.0; image_after = both.1 }

pub returns-then-read_image : goal.returns-then-read_image
returns-then-read_image c = let both = image_written c.args.image.now c.args.from c.args.to c.args.xcr0 c.args.xss c.read_image.ensures.read_in.image c.if-read_image.true
    c.read_image.ensures.held c.carry-verdict.ensures c.in_default.is c.write_table.ensures.1 in record { value = both.0; image_after = both.1 }

pub returns : goal.returns
returns c = let both = image_none c.args.image.now c.args.from c.args.to c.args.xcr0 c.args.xss c.read_image.ensures.read_in.image c.if-read_image.false in record { value = both.0; image_after = both.1 }
