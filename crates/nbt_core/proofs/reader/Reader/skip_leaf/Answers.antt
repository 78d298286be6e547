use Rattle.nbt_core.proofs.SkipLemmas.{skips_byte, skips_short, skips_int, skips_long, skips_float, skips_double}
use Rattle.nbt_core.proofs.SkipLemmas.{skips_bytes, skips_text, skips_ints, skips_longs}
use Rattle.nbt_core.proofs.reader.Reader.skip_leaf.Goals as goal

pub returns-in-Byte-clause-read : goal.returns-in-Byte-clause-read
returns-in-Byte-clause-read c =
    rw c.in-Byte.is (skips_byte c.skip_run.result c.skip_run.new.self.rest.now c.args.self.now.end
    c.args.self.now.rest.now
    c.skip_run.ensures.read)

pub returns-in-Short-clause-read : goal.returns-in-Short-clause-read
returns-in-Short-clause-read c =
    rw c.in-Short.is (skips_short c.skip_run-in-Short.result c.skip_run-in-Short.new.self.rest.now
    c.args.self.now.end c.args.self.now.rest.now
    c.skip_run-in-Short.ensures.read)

pub returns-in-Int-clause-read : goal.returns-in-Int-clause-read
returns-in-Int-clause-read c =
    rw c.in-Int.is (skips_int c.skip_run-in-Int.result c.skip_run-in-Int.new.self.rest.now c.args.self.now.end
    c.args.self.now.rest.now
    c.skip_run-in-Int.ensures.read)

pub returns-in-Long-clause-read : goal.returns-in-Long-clause-read
returns-in-Long-clause-read c =
    rw c.in-Long.is (skips_long c.skip_run-in-Long.result c.skip_run-in-Long.new.self.rest.now c.args.self.now.end
    c.args.self.now.rest.now
    c.skip_run-in-Long.ensures.read)

pub returns-in-Float-clause-read : goal.returns-in-Float-clause-read
returns-in-Float-clause-read c =
    rw c.in-Float.is (skips_float c.skip_run-in-Float.result c.skip_run-in-Float.new.self.rest.now
    c.args.self.now.end c.args.self.now.rest.now
    c.skip_run-in-Float.ensures.read)

pub returns-in-Double-clause-read : goal.returns-in-Double-clause-read
returns-in-Double-clause-read c =
    rw c.in-Double.is (skips_double c.skip_run-in-Double.result c.skip_run-in-Double.new.self.rest.now
    c.args.self.now.end c.args.self.now.rest.now
    c.skip_run-in-Double.ensures.read)

pub returns-in-ByteArray-clause-read : goal.returns-in-ByteArray-clause-read
returns-in-ByteArray-clause-read c =
    rw c.in-ByteArray.is (skips_bytes c.skip_array.result c.skip_array.new.self.rest.now c.args.self.now.end
    c.args.self.now.rest.now
    c.skip_array.ensures.read)

pub returns-in-Text-clause-read : goal.returns-in-Text-clause-read
returns-in-Text-clause-read c =
    rw c.in-Text.is (skips_text c.skip_text.result c.skip_text.new.self.rest.now c.args.self.now.end
    c.args.self.now.rest.now
    c.skip_text.ensures.read)

pub returns-in-IntArray-clause-read : goal.returns-in-IntArray-clause-read
returns-in-IntArray-clause-read c =
    rw c.in-IntArray.is (skips_ints c.skip_array-in-IntArray.result c.skip_array-in-IntArray.new.self.rest.now
    c.args.self.now.end c.args.self.now.rest.now
    c.skip_array-in-IntArray.ensures.read)

pub returns-in-LongArray-clause-read : goal.returns-in-LongArray-clause-read
returns-in-LongArray-clause-read c =
    rw c.in-LongArray.is (skips_longs c.skip_array-in-LongArray.result c.skip_array-in-LongArray.new.self.rest.now
    c.args.self.now.end c.args.self.now.rest.now
    c.skip_array-in-LongArray.ensures.read)
