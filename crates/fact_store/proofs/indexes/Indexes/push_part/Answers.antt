use Rattle.fact_store.specs.declared.naming.Naming.TheVariants.{Component, Unit as OfUnit, Tested, Reading}
use Rattle.fact_store.proofs.indexes.Indexes.push_part.Goals as goal

pub returns-clause-turned : goal.returns-clause-turned
returns-clause-turned c = λ spare keep.
    record {
      by_component = c.push_part.ensures.turned Component spare keep.by_component;
      by_unit = c.push_part-2.ensures.turned OfUnit spare keep.by_unit;
      by_instrument = c.push_part-3.ensures.turned Tested spare keep.by_instrument;
      by_reading = c.push_part-4.ensures.turned Reading spare keep.by_reading;
    }

pub returns-clause-counted : goal.returns-clause-counted
returns-clause-counted c = λ spare counted count.
    record {
      by_component = c.push_part.ensures.counted spare counted.components.items count.by_component;
      by_unit = c.push_part-2.ensures.counted spare counted.units.items count.by_unit;
      by_instrument = c.push_part-3.ensures.counted spare counted.instruments.items count.by_instrument;
      by_reading = c.push_part-4.ensures.counted spare counted.readings.items count.by_reading;
    }
