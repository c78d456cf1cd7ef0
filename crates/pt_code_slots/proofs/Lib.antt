mod Making
