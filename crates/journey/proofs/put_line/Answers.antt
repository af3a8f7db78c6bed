-- `journey::put_line` meets its contract. Field after field. Assumes nothing.
use native.Mathlib.Omega.{arith}
use mathlib.Core.List.{[], ◌∷◌, ◌++◌}
use Rattle.text.specs.Decimal.{decimal}
use Rattle.text.proofs.Tens.{decimal-some}
use Rattle.journey.specs.Listing.{kind_word, spaced, line}
use Rattle.journey.proofs.Texts.{and_then, spaced-short, kind-short}
use Rattle.journey.proofs.put_line.Goals as goal

pub put_kind-number-requires : goal.put_kind-number-requires
put_kind-number-requires c =
    omega (arith, c.put_field-kind.ensures.0, spaced-short c.args.hop, c.requires)

pub put_field-address-requires : goal.put_field-address-requires
put_field-address-requires c =
    omega (arith, c.put_field-kind.ensures.0, spaced-short c.args.hop, c.put_kind-number.ensures.0, kind-short c.args.callee, c.requires)

pub put_field-rest-requires : goal.put_field-rest-requires
put_field-rest-requires c =
    omega (arith, c.put_field-kind.ensures.0, spaced-short c.args.hop, c.put_kind-number.ensures.0, kind-short c.args.callee, c.put_field-address.ensures.0, spaced-short c.number_in.result, c.requires)

pub put_number-end-requires : goal.put_number-end-requires
put_number-end-requires c =
    omega (arith, c.put_field-kind.ensures.0, spaced-short c.args.hop, c.put_kind-number.ensures.0, kind-short c.args.callee, c.put_field-address.ensures.0, spaced-short c.number_in.result, c.put_field-rest.ensures.0, spaced-short c.address_of.result, c.requires)

pub put_bytes-requires : goal.put_bytes-requires
put_bytes-requires c =
    (omega arith, omega (arith, c.put_field-kind.ensures.0, spaced-short c.args.hop, c.put_kind-number.ensures.0, kind-short c.args.callee, c.put_field-address.ensures.0, spaced-short c.number_in.result, c.put_field-rest.ensures.0, spaced-short c.address_of.result, c.put_number-end.ensures.0, (decimal-some c.args.left).1, c.requires))

pub returns : goal.returns
unfolding line
returns c =
    let to-1 = and_then c.args.room.now c.args.at ((spaced (decimal c.args.hop))) c.put_field-kind.result c.put_field-kind.new.room (spaced (kind_word c.args.callee)) c.put_kind-number.result c.put_kind-number.new.room c.put_field-kind.ensures c.put_kind-number.ensures in
    let to-2 = and_then c.args.room.now c.args.at ((spaced (decimal c.args.hop)) ++ (spaced (kind_word c.args.callee))) c.put_kind-number.result c.put_kind-number.new.room (spaced (decimal c.number_in.result)) c.put_field-address.result c.put_field-address.new.room to-1 c.put_field-address.ensures in
    let to-3 = and_then c.args.room.now c.args.at ((spaced (decimal c.args.hop)) ++ (spaced (kind_word c.args.callee)) ++ (spaced (decimal c.number_in.result))) c.put_field-address.result c.put_field-address.new.room (spaced (decimal c.address_of.result)) c.put_field-rest.result c.put_field-rest.new.room to-2 c.put_field-rest.ensures in
    let to-4 = and_then c.args.room.now c.args.at ((spaced (decimal c.args.hop)) ++ (spaced (kind_word c.args.callee)) ++ (spaced (decimal c.number_in.result)) ++ (spaced (decimal c.address_of.result))) c.put_field-rest.result c.put_field-rest.new.room (decimal c.args.left) c.put_number-end.result c.put_number-end.new.room to-3 c.put_number-end.ensures in
    let to-5 = and_then c.args.room.now c.args.at ((spaced (decimal c.args.hop)) ++ (spaced (kind_word c.args.callee)) ++ (spaced (decimal c.number_in.result)) ++ (spaced (decimal c.address_of.result)) ++ (decimal c.args.left)) c.put_number-end.result c.put_number-end.new.room (10 ∷ []) c.put_bytes.result c.put_bytes.new.room to-4 c.put_bytes.ensures in
    rw (← c.number_in.ensures, ← c.address_of.ensures) to-5
