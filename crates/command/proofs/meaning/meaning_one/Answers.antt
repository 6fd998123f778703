-- `command::meaning::meaning_one` meets its contract. Assumes nothing.
use Rattle.std.proofs.Common.{refl, ne_eqb}
use Rattle.text.specs.Utf8.{octets}
use Rattle.text.specs.Strings.{utf8}
use Rattle.text.specs.SameBytes.{same_bytes}
use Rattle.command.specs.Commands.{commands, meaning_in}
use Rattle.command.proofs.ways.MeaningRows as laws
use Rattle.command.proofs.meaning.meaning_one.Goals as goal

pub returns-in-96 : goal.returns-in-96
unfolding meaning_in commands same_bytes utf8 octets laws.only
returns-in-96 c = laws.at_key _ _ _ c.in-96.is refl

pub returns-in-39 : goal.returns-in-39
unfolding meaning_in commands same_bytes utf8 octets laws.only
returns-in-39 c = laws.at_key _ _ _ c.in-39.is refl

pub returns-in-94 : goal.returns-in-94
unfolding meaning_in commands same_bytes utf8 octets laws.only
returns-in-94 c = laws.at_key _ _ _ c.in-94.is refl

pub returns-in-126 : goal.returns-in-126
unfolding meaning_in commands same_bytes utf8 octets laws.only
returns-in-126 c = laws.at_key _ _ _ c.in-126.is refl

pub returns-in-61 : goal.returns-in-61
unfolding meaning_in commands same_bytes utf8 octets laws.only
returns-in-61 c = laws.at_key _ _ _ c.in-61.is refl

pub returns-in-117 : goal.returns-in-117
unfolding meaning_in commands same_bytes utf8 octets laws.only
returns-in-117 c = laws.at_key _ _ _ c.in-117.is refl

pub returns-in-46 : goal.returns-in-46
unfolding meaning_in commands same_bytes utf8 octets laws.only
returns-in-46 c = laws.at_key _ _ _ c.in-46.is refl

pub returns-in-34 : goal.returns-in-34
unfolding meaning_in commands same_bytes utf8 octets laws.only
returns-in-34 c = laws.at_key _ _ _ c.in-34.is refl

pub returns-in-114 : goal.returns-in-114
unfolding meaning_in commands same_bytes utf8 octets laws.only
returns-in-114 c = laws.at_key _ _ _ c.in-114.is refl

pub returns-in-72 : goal.returns-in-72
unfolding meaning_in commands same_bytes utf8 octets laws.only
returns-in-72 c = laws.at_key _ _ _ c.in-72.is refl

pub returns-in-118 : goal.returns-in-118
unfolding meaning_in commands same_bytes utf8 octets laws.only
returns-in-118 c = laws.at_key _ _ _ c.in-118.is refl

pub returns-in-100 : goal.returns-in-100
unfolding meaning_in commands same_bytes utf8 octets laws.only
returns-in-100 c = laws.at_key _ _ _ c.in-100.is refl

pub returns-in-99 : goal.returns-in-99
unfolding meaning_in commands same_bytes utf8 octets laws.only
returns-in-99 c = laws.at_key _ _ _ c.in-99.is refl

pub returns-in-107 : goal.returns-in-107
unfolding meaning_in commands same_bytes utf8 octets laws.only
returns-in-107 c = laws.at_key _ _ _ c.in-107.is refl

pub returns-in-98 : goal.returns-in-98
unfolding meaning_in commands same_bytes utf8 octets laws.only
returns-in-98 c = laws.at_key _ _ _ c.in-98.is refl

pub returns-in-45 : goal.returns-in-45
unfolding meaning_in commands same_bytes utf8 octets laws.only
returns-in-45 c = laws.at_key _ _ _ c.in-45.is refl

pub returns-in-111 : goal.returns-in-111
unfolding meaning_in commands same_bytes utf8 octets laws.only
returns-in-111 c = laws.at_key _ _ _ c.in-111.is refl

pub returns-in-79 : goal.returns-in-79
unfolding meaning_in commands same_bytes utf8 octets laws.only
returns-in-79 c = laws.at_key _ _ _ c.in-79.is refl

pub returns-in-108 : goal.returns-in-108
unfolding meaning_in commands same_bytes utf8 octets laws.only
returns-in-108 c = laws.at_key _ _ _ c.in-108.is refl

pub returns-in-76 : goal.returns-in-76
unfolding meaning_in commands same_bytes utf8 octets laws.only
returns-in-76 c = laws.at_key _ _ _ c.in-76.is refl

pub returns-in-105 : goal.returns-in-105
unfolding meaning_in commands same_bytes utf8 octets laws.only
returns-in-105 c = laws.at_key _ _ _ c.in-105.is refl

pub returns-in-80 : goal.returns-in-80
unfolding meaning_in commands same_bytes utf8 octets laws.only
returns-in-80 c = laws.at_key _ _ _ c.in-80.is refl

pub returns-in-83 : goal.returns-in-83
unfolding meaning_in commands same_bytes utf8 octets laws.only
returns-in-83 c = laws.at_key _ _ _ c.in-83.is refl

pub returns-in_default : goal.returns-in_default
returns-in_default c = laws.other _ (rw (
  ne_eqb _ _ c.in_default.in_default-own.rest.0.0.0.0.0.0.0.0.0.0.0.0.0.0.0.0.0.0.0.0.0.0.1,
  ne_eqb _ _
      c.in_default.in_default-own.rest.0.0.0.0.0.0.0.0.0.0.0.0.0.0.0.0.0.0.0.0.0.1,
  ne_eqb _ _
      c.in_default.in_default-own.rest.0.0.0.0.0.0.0.0.0.0.0.0.0.0.0.0.0.0.0.0.1,
  ne_eqb _ _
      c.in_default.in_default-own.rest.0.0.0.0.0.0.0.0.0.0.0.0.0.0.0.0.0.0.0.1,
  ne_eqb _ _
      c.in_default.in_default-own.rest.0.0.0.0.0.0.0.0.0.0.0.0.0.0.0.0.0.0.1,
  ne_eqb _ _
      c.in_default.in_default-own.rest.0.0.0.0.0.0.0.0.0.0.0.0.0.0.0.0.0.1,
  ne_eqb _ _
      c.in_default.in_default-own.rest.0.0.0.0.0.0.0.0.0.0.0.0.0.0.0.0.1,
  ne_eqb _ _
      c.in_default.in_default-own.rest.0.0.0.0.0.0.0.0.0.0.0.0.0.0.0.1,
  ne_eqb _ _
      c.in_default.in_default-own.rest.0.0.0.0.0.0.0.0.0.0.0.0.0.0.1,
  ne_eqb _ _
      c.in_default.in_default-own.rest.0.0.0.0.0.0.0.0.0.0.0.0.0.1,
  ne_eqb _ _
      c.in_default.in_default-own.rest.0.0.0.0.0.0.0.0.0.0.0.0.1,
  ne_eqb _ _
      c.in_default.in_default-own.rest.0.0.0.0.0.0.0.0.0.0.0.1,
  ne_eqb _ _
      c.in_default.in_default-own.rest.0.0.0.0.0.0.0.0.0.0.1,
  ne_eqb _ _
      c.in_default.in_default-own.rest.0.0.0.0.0.0.0.0.0.1,
  ne_eqb _ _
      c.in_default.in_default-own.rest.0.0.0.0.0.0.0.0.1,
  ne_eqb _ _
      c.in_default.in_default-own.rest.0.0.0.0.0.0.0.1,
  ne_eqb _ _
      c.in_default.in_default-own.rest.0.0.0.0.0.0.1,
  ne_eqb _ _ c.in_default.in_default-own.rest.0.0.0.0.0.1,
  ne_eqb _ _ c.in_default.in_default-own.rest.0.0.0.0.1,
  ne_eqb _ _
      c.in_default.in_default-own.rest.0.0.0.1,
  ne_eqb _ _ c.in_default.in_default-own.rest.0.0.1,
  ne_eqb _ _
      c.in_default.in_default-own.rest.0.1,
  ne_eqb _ _ c.in_default.in_default-own.rest.1,
))
