use Rattle.std.proofs.Common.{◌≡◌, ◌≤◌, true, length, take}
use Rattle.std.specs.List.{list_all}
use Rattle.std.specs.Char.{is_ascii_digit}
use Rattle.std.specs.Str.Parse.{digits_value}
use Rattle.cmdline.proofs.numbers.numeral.Given as goal

abbrev pub invariant-digits : goal.invariant-digits
invariant-digits l = record {
  value : l.n ≡ digits_value 10 (take l.b-index l.digits);
  digits : list_all is_ascii_digit (take l.b-index l.digits) ≡ true;
  short : length l.digits ≤ 9;
}
