mod WellComposed
