-- Each arm looks at all names of its length, and no name has another.
use Rattle.cause.proofs.Places.{by_length, elsewhere}
use Rattle.cause.proofs.names.name.Goals as goal

pub returns-in-10 : goal.returns-in-10
returns-in-10 c = by_length _ c.in-10.is c.place.ensures

pub returns-in-12 : goal.returns-in-12
returns-in-12 c = by_length _ c.in-12.is c.place-in-12.ensures

pub returns-in-15 : goal.returns-in-15
returns-in-15 c =
    by_length _ c.in-15.is (rw (c.or.ensures, c.place-in-15.ensures, c.place-in-15-2.ensures, c.place-in-15-3.ensures) at c.or-in-15.ensures)

pub returns-in-16 : goal.returns-in-16
returns-in-16 c = by_length _ c.in-16.is c.place-in-16.ensures

pub returns-in-18 : goal.returns-in-18
returns-in-18 c =
    by_length _ c.in-18.is (rw (c.place-in-18.ensures, c.place-in-18-2.ensures) at c.or-in-18.ensures)

pub returns-in-19 : goal.returns-in-19
returns-in-19 c =
    by_length _ c.in-19.is (rw (c.or-in-19.ensures, c.place-in-19.ensures, c.place-in-19-2.ensures, c.place-in-19-3.ensures) at c.or-in-19-2.ensures)

pub returns-in-20 : goal.returns-in-20
returns-in-20 c =
    by_length _ c.in-20.is (rw (c.or-in-20.ensures, c.place-in-20.ensures, c.place-in-20-2.ensures, c.place-in-20-3.ensures) at c.or-in-20-2.ensures)

pub returns-in-21 : goal.returns-in-21
returns-in-21 c =
    by_length _ c.in-21.is (rw (c.place-in-21.ensures, c.place-in-21-2.ensures) at c.or-in-21.ensures)

pub returns-in-22 : goal.returns-in-22
returns-in-22 c = by_length _ c.in-22.is c.place-in-22.ensures

pub returns-in-24 : goal.returns-in-24
returns-in-24 c = by_length _ c.in-24.is c.place-in-24.ensures

pub returns-in-25 : goal.returns-in-25
returns-in-25 c = by_length _ c.in-25.is c.place-in-25.ensures

pub returns-in-26 : goal.returns-in-26
returns-in-26 c = by_length _ c.in-26.is c.place-in-26.ensures

pub returns-in-28 : goal.returns-in-28
returns-in-28 c = by_length _ c.in-28.is c.place-in-28.ensures

pub returns-in_default : goal.returns-in_default
returns-in_default c = elsewhere _ c.in_default.in_default-own.rest
